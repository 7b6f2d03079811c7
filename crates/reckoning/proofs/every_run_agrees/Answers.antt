use Rattle.reckoning.proofs.Theorem as proof
use Rattle.reckoning.proofs.every_run_agrees.Goals as goal

pub returns : goal.returns
returns c = record { theorem = proof.every_run_agrees }

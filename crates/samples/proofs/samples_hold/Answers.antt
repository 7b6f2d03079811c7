use Rattle.samples.proofs.Derived.{derived}
use Rattle.samples.proofs.samples_hold.Goals as goal

pub returns : goal.returns
returns c = record { all_hold = derived; count = c.count.ensures.all }

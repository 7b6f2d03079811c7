use Rattle.register.specs.Faults.{fault_in}
use Rattle.register.proofs.Judging.{recall_by}
use Rattle.register.proofs.answers.judge_recall.Goals as goal

pub returns-clause-verdict : goal.returns-clause-verdict
returns-clause-verdict g c = recall_by c.args.day (g.AccountBook.Book.meaning c.args.register.now.accounts) (g.DeviceBook.Book.meaning c.args.register.now.devices) c.args.register.now.tables c.in_ok-answer.answer c.args.order (fault_in c.judge_answer.result) c.in_ok-answer.ensures.checked c.in_ok-answer.ensures.refused_at c.judge_answer.ensures.verdict

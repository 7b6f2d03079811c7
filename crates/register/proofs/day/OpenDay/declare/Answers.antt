use Rattle.std.proofs.lemmas.Bool.{true≢false}
use Rattle.register.proofs.Declared.{declared}
use Rattle.register.proofs.day.OpenDay.declare.Goals as goal

pub returns : goal.returns
returns g c =
    let judged = c.in_ok-declaration.ensures.judged in
    let laid = c.lay_down.ensures in
    record {
      settles =
          declared c.args.order c.in_ok-declaration.declaration c.in_ok-declaration.issue c.args.self.now.figures c.last_after-self.result
          (g.AccountBook.Book.meaning c.args.register.now.accounts) (g.AccountBook.Book.meaning c.credit.new.accounts)
          (g.DeviceBook.Book.meaning c.args.register.now.devices) (g.DeviceBook.Book.meaning c.write_totals.new.self)
          c.args.register.now.tables c.lay_down.new.tables
          judged.verdict judged.ready.operands judged.ready.issue
          laid.periods laid.origins laid.standings laid.offers laid.cancellations
          c.credit.ensures.after c.write_totals.ensures.after c.last_after-self.ensures.last;
      refusal_leaves_day = λ e. absurd (true≢false e);
      refusal_leaves_accounts = λ e. absurd (true≢false e);
      refusal_leaves_devices = λ e. absurd (true≢false e);
      refusal_leaves_tables = λ e. absurd (true≢false e);
    }

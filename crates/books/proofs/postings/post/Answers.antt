use Rattle.std.proofs.Common.{refl}
use Rattle.std.proofs.lemmas.Bool.{both_ways}
use Rattle.books.specs.Ledger.{matches}
use Rattle.books.proofs.Posted.{posted_absent, absent_from_none, present_from_some, posted_written}
use Rattle.books.proofs.postings.post.Goals as goal

pub returns-in_default : goal.returns-in_default
returns-in_default g c =
    let is = matches g.K.Key.order (g.K.Key.plain c.args.posting.key) in
    let l = g.B.Book.meaning c.args.book.now in
    record {
      after = posted_absent is _ _ l (absent_from_none is c.args.posting.first c.args.posting.second l c.in_default.ensures.totals);
      absent_leaves_all = λ _. refl;
    }

pub returns : goal.returns
returns g c =
    let is = matches g.K.Key.order (g.K.Key.plain c.args.posting.key) in
    let l = g.B.Book.meaning c.args.book.now in
    let one = c.args.posting.first in
    let other = c.args.posting.second in
    let t = c.in-Some.totals in
    let read = c.in-Some.ensures.totals in
    record {
      after = posted_written is one other l _ t c.moved-first.result read c.moved-first.ensures.moved c.write_totals.ensures.after;
      absent_leaves_all = λ h. absurd (both_ways _ h (present_from_some is one other l t read));
    }

use Rattle.std.proofs.Common.{ap, ◌∙◌, rules, subst}
use Rattle.std.proofs.lemmas.List.Sorted.{answers_always}
use Rattle.books_in_order.specs.KeyOrder.{rises, Sought}
use Rattle.books_in_order.proofs.Places.{sought_by}
use Rattle.books_in_order.proofs.in_order.BookInOrder.seek_key.Goals as goal

pub returns : goal.returns
returns g c =
    let b = c.args.self.now in
    let facts = c.binary_search_by_key.ensures in
    let by_key = facts.position (λ row. row.key) (answers_always _ _ _ (λ f a r h called. search rules)) in
    let sought = sought_by g.met.K.Key.total c.to_plain.result c.rows_in_use.result.now (ap (rises g.K.Key.order) c.rows_in_use.ensures.in_use ∙ b.sound.rising) g.met.K.Key.compares c.binary_search_by_key.result facts.bound by_key in
    record {
      sought = subst (λ rows. Sought g.K.Key.order (g.K.Key.plain c.args.key) rows c.binary_search_by_key.result) c.rows_in_use.ensures.in_use
          (subst (λ (k : g.row.K-Plain.Denot). Sought g.K.Key.order k c.rows_in_use.result.now c.binary_search_by_key.result) c.to_plain.ensures.plain sought);
    }

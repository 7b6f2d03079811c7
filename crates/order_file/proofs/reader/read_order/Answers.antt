use Rattle.std.proofs.Common.{rules, ◌≡◌, ◌<◌, length, get_or, Some, Ok, Err, subst, sym}
use Rattle.std.proofs.lemmas.List.{take_rest}
use Rattle.order_file.specs.Commands.{kind_of}
use Rattle.order_file.specs.Reading.{read_order}
use Rattle.order_file.proofs.Reading.{splits}
use Rattle.order_file.proofs.reader.read_order.Goals as goal

pub returns-clause-order_and_rest : goal.returns-clause-order_and_rest
returns-clause-order_and_rest c =
    let kind = c.in_ok-kind.kind in
    let some : 0 < length c.args.bytes.now = search rules in
    let known : kind_of (get_or c.args.bytes.now 0 0) ≡ Some kind = search rules in
    let split = splits (λ after. after.now) c.args.bytes.now _ c.args.place kind c.split_order.result some known (take_rest c.args.bytes.now 1) c.split_order.ensures.order in
    subst (λ told. elim told as (λ r. Type 0) [ Ok read ↦ read_order c.args.bytes.now c.args.place ≡ Ok (read.0, read.1.now) | Err fault ↦ read_order c.args.bytes.now c.args.place ≡ Err fault ]) (sym c.ok_or.ensures.value) split

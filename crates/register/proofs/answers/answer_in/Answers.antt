use Rattle.std.proofs.Common.{◌-◌, set, ap, ◌∙◌}
use Rattle.register.proofs.OfferRows.{row_answered}
use Rattle.register.proofs.answers.answer_in.Goals as goal

pub returns : goal.returns
returns c =
    record {
      answered = λ f here.
          ap (set c.args.offers.now (c.args.number - 1)) c.answer_offer.ensures.answered
          ∙ row_answered c.args.call c.args.offers.now (c.args.number - 1) _ f here;
    }

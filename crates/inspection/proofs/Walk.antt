-- A walk through a file, order by order. Assumes nothing.
use Rattle.std.proofs.Common.{◌≡◌, ℕ, zero, suc, ◌+◌, ◌-◌, ◌≤◌, ◌⊎◌, inl, inr, List, [], ◌∷◌, ◌++◌, length, Some, None, Option, Result, sym, refl, ap, ◌∙◌, arith}
use Rattle.order_file.specs.declared.orders.Order.{Order}
use Rattle.report.specs.Lines.{lawful_line}
use Rattle.inspection.specs.Findings.{found}
use Rattle.inspection.specs.Files.{findings_from, refused_lines, lawful_count}
use Rattle.inspection.specs.declared.findings.Finding.{Finding}
use Rattle.inspection.specs.declared.refusals.Refusal.{Refusal}
use Rattle.inspection.proofs.Found.{found_past, found_onward}

none_more : (most : ℕ) (file : List ℕ) (place : ℕ) → found file place ≡ None → findings_from most file place ≡ []
unfolding findings_from
none_more zero file place none = refl
none_more (suc most) file place none = rw (none, findings_from) refl

one_more : (most : ℕ) (file : List ℕ) (place : ℕ) (finding : Finding) → found file place ≡ Some finding → findings_from (suc most) file place ≡ (place, finding.order) ∷ findings_from most file finding.next
unfolding findings_from
one_more most file place finding is = rw (is, findings_from) refl

some_or_none : (o : Option Finding) → (o ≡ None) ⊎ ((finding : Finding) × (o ≡ Some finding))
some_or_none None = inl refl
some_or_none (Some finding) = inr (finding, refl)

-- as many turns as there are bytes left are enough
enough : (most more : ℕ) (file : List ℕ) (place : ℕ) → length file ≤ place + most → most ≤ more → findings_from most file place ≡ findings_from more file place
enough zero more file place far wide =
    let none = sym (found_past file place (omega arith)) in
    none_more zero file place none ∙ sym (none_more more file place none)
enough (suc most) zero file place far wide = absurd (omega arith)
enough (suc most) (suc more) file place far wide = elim (some_or_none (found file place)) [
  | inl none ↦ none_more (suc most) file place none ∙ sym (none_more (suc more) file place none)
  | inr (finding, is) ↦
      one_more most file place finding is
      ∙ ap (λ orders. (place, finding.order) ∷ orders) (enough most more file finding.next (omega (arith, found_onward file place finding is)) (omega arith))
      ∙ sym (one_more more file place finding is)
]

pub none_left : (file : List ℕ) (place : ℕ) → found file place ≡ None → findings_from (length file - place) file place ≡ []
none_left file place none = none_more (length file - place) file place none

pub one_left : (file : List ℕ) (place : ℕ) (finding : Finding) → found file place ≡ Some finding → findings_from (length file - place) file place ≡ (place, finding.order) ∷ findings_from (length file - finding.next) file finding.next
one_left file place finding is =
    let onward = found_onward file place finding is in
    let most = length file - (place + 1) in
    let turns : length file - place ≡ suc most = omega (arith, onward.0) in
    ap (λ k. findings_from k file place) turns
    ∙ one_more most file place finding is
    ∙ ap (λ orders. (place, finding.order) ∷ orders) (sym (enough (length file - finding.next) most file finding.next (omega arith) (omega (arith, onward.1))))

-- what is still to print, with this many orders behind and this many of them lawful
abbrev pub left : ℕ → ℕ → List (ℕ × Result Order Refusal) → List ℕ
left index lawful orders = refused_lines index orders ++ lawful_line (lawful + lawful_count orders)

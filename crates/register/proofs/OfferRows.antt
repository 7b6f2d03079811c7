-- The offer of a number, and its row. Assumes nothing.
use Rattle.std.proofs.Common.{◌≡◌, ℕ, zero, suc, ◌-◌, ◌<◌, ◌≤◌, Bool, ◌&&◌, leb, List, [], ◌∷◌, length, get_or, set, Some, None, sym, refl, ap, ◌∙◌, ⊎_elim, arith}
use Rattle.std.proofs.lemmas.Bool.{le-leb, leb-true, and_from, and_parts, cond-true, cond-false, cases_Bool}
use Rattle.range_map.specs.Map.{nth}
use Rattle.register.specs.Answers.{answered_by, offer_at}
use Rattle.register.specs.State.{room}
use Rattle.register.specs.declared.answers.OfferCall.{OfferCall}
use Rattle.register.specs.declared.rows.Offer.{Offer}

nth_at : {X : Type 0} (xs : List X) (i : ℕ) (d : X) → i < length xs → nth i xs ≡ Some (get_or xs i d)
nth_at [] i d within = absurd (omega arith)
nth_at (x ∷ xs) zero d within = refl
nth_at (x ∷ xs) (suc i) d within = nth_at xs i d (omega arith)

nth_within : {X : Type 0} (xs : List X) (i : ℕ) (x : X) → nth i xs ≡ Some x → i < length xs
nth_within [] i x here = let z : ◌≡◌ {A = ℕ} 0 1 = cc in absurd (omega arith)
nth_within (y ∷ xs) zero x here = omega arith
nth_within (y ∷ xs) (suc i) x here = let h = nth_within xs i x here in omega arith

module _ (k made : ℕ) (rows : List Offer) where
  test : Bool
  test = leb 1 k && (leb k made && leb k (room rows))

  pub offer_here : (d : Offer) → 1 ≤ k → k ≤ made → k ≤ room rows → Some (get_or rows (k - 1) d) ≡ offer_at k made rows
  offer_here d some in_made in_room =
      sym (
      cond-true _ _ _ (and_from _ _ (le-leb 1 k some) (and_from _ _ (le-leb k made in_made) (le-leb k (room rows) in_room)))
      ∙ nth_at rows (k - 1) d (omega arith)
      )

  -- an offer that is found has a number from 1 on, and its row
  pub record Row (f : Offer) : Type 0 where
    pub numbered : 1 ≤ k
    pub row : nth (k - 1) rows ≡ Some f
    pub within : k - 1 < length rows

  pub offer_row : (f : Offer) → offer_at k made rows ≡ Some f → Row f
  unfolding test
  offer_row f found =
      ⊎_elim
      (λ t.
      let row : nth (k - 1) rows ≡ Some f = sym (cond-true _ _ _ t) ∙ found in
      record { numbered = leb-true 1 k (and_parts _ _ t).0; row = row; within = nth_within rows (k - 1) f row })
      (λ t. let none : None ≡ Some f = sym (cond-false _ _ _ t) ∙ found in let z : ◌≡◌ {A = ℕ} 0 1 = cc in absurd (omega arith))
      (cases_Bool test)

pub row_answered : (call : OfferCall) (rows : List Offer) (i : ℕ) (d f : Offer) → nth i rows ≡ Some f → set rows i (answered_by call (get_or rows i d)) ≡ set rows i (answered_by call f)
row_answered call rows i d f here =
    let same : get_or rows i d ≡ f = cc (nth_at rows i d (nth_within rows i f here)) in
    ap (λ x. set rows i (answered_by call x)) same

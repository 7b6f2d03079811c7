-- Making place for a row: what the move and the write leave. Assumes nothing.
use Rattle.std.proofs.Common.{◌≡◌, ℕ, ◌+◌, ◌-◌, ◌<◌, ◌≤◌, List, ◌∷◌, ◌++◌, length, get_or, take, drop, set, sym, ap, ◌∙◌, arith}
use borrow.Rule.Slice.PartMut.{put_mid, post_of}
use Rattle.std.specs.List.{insert}
use Rattle.std.proofs.lemmas.List.{length-take-le, length-drop, length-append, drop_more, drop_all, set_at, take_at, take-take, drop-take, append_assoc}

module _ {X : Type 0} (xs : List X) (used place : ℕ) (row : X) (roomy : used < length xs) (within : place ≤ used) where
  part : List X
  part = take (used + 1 - place) (drop place xs)

  kept : List X
  kept = take (used - place) (drop place xs)

  part_long : length part ≡ used + 1 - place
  unfolding part
  part_long = length-take-le (used + 1 - place) (drop place xs) (omega (arith, length-drop place xs))

  kept_long : length kept ≡ used - place
  unfolding kept
  kept_long = length-take-le (used - place) (drop place xs) (omega (arith, length-drop place xs))

  -- the last row comes first, before the others
  rotated : drop (length part - 1) part ++ take (length part - 1) part ≡ get_or part (length part - 1) row ∷ kept
  unfolding part kept
  rotated =
      let short : length part - 1 ≡ used - place = omega (arith, part_long) in
      let last = drop_more part (length part - 1) row (omega (arith, part_long)) ∙ ap (λ l. get_or part (length part - 1) row ∷ l) (drop_all (length part - 1 + 1) part (omega (arith, part_long))) in
      let rest : take (length part - 1) part ≡ kept = ap (λ n. take n part) short ∙ take-take (used - place) (used + 1 - place) (drop place xs) (omega arith) in
      λ i. last i ++ rest i

  pub moved_up : (ys : List X) → ys ≡ drop (length (take (used + 1 - place) (drop place xs)) - 1) (take (used + 1 - place) (drop place xs)) ++ take (length (take (used + 1 - place) (drop place xs)) - 1) (take (used + 1 - place) (drop place xs)) → take (used + 1) (set (put_mid place (used + 1 - place) xs ys) place row) ≡ insert (take used xs) place row
  unfolding part kept
  moved_up ys e =
      let front : length (take place xs) ≡ place = length-take-le place xs (omega arith) in
      let post = post_of place (used + 1 - place) xs in
      let sum : place + (used - place) ≡ used = omega arith in
      let whole : length (take place xs ++ (row ∷ kept)) ≡ used + 1 = omega (arith, length-append (take place xs) (row ∷ kept), kept_long) in
      ap (λ l. take (used + 1) (set (take place xs ++ (l ++ post)) place row)) (e ∙ rotated)
      ∙ ap (take (used + 1)) (set_at (take place xs) (get_or part (length part - 1) row) (kept ++ post) row place front)
      ∙ ap (take (used + 1)) (sym (append_assoc (take place xs) (row ∷ kept) post))
      ∙ take_at (take place xs ++ (row ∷ kept)) post (used + 1) whole
      ∙ sym ((λ i. take-take place used xs within i ++ (row ∷ (ap (λ n. drop place (take n xs)) (sym sum) ∙ drop-take place (used - place) xs) i)))

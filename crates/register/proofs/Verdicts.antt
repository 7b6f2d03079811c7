-- The first check that fails, found by passing over those that do not. Assumes nothing.
use Rattle.std.proofs.Common.{◌≡◌, ℕ, Bool, true, false, List, [], ◌∷◌, ◌++◌, IfOk, Some, None, Ok, Err, Option, Result, sym, refl, ap, ◌∙◌, subst, arith}
use Rattle.order_file.specs.Checks.{refused_at}
use Rattle.order_file.specs.declared.faults.OperandFault.{OperandFault}
use Rattle.register.specs.Checks.{bad_at}
use Rattle.register.specs.Faults.{fault_in, unless, first_fault}
use Rattle.register.specs.Settled.{Judged}
use Rattle.register.specs.declared.faults.Fault.{Fault}
use Rattle.register.specs.declared.faults.Fault.TheVariants.{Operand}

pub none_before : (xs ys : List (Option Fault)) → None ≡ first_fault xs → first_fault (xs ++ ys) ≡ first_fault ys
none_before [] ys none = refl
none_before (None ∷ xs) ys none = none_before xs ys none
none_before (Some f ∷ xs) ys none = let z : ◌≡◌ {A = ℕ} 0 1 = cc in absurd (omega arith)

pub one_before : (xs ys : List (Option Fault)) (f : Fault) → Some f ≡ first_fault xs → Some f ≡ first_fault (xs ++ ys)
one_before [] ys f one = let z : ◌≡◌ {A = ℕ} 0 1 = cc in absurd (omega arith)
one_before (None ∷ xs) ys f one = one_before xs ys f one
one_before (Some e ∷ xs) ys f one = one

-- where no check fails, each of them passes
abbrev pub Pass : List (Option Fault) → Type 0
Pass [] = Unit
Pass (x ∷ xs) = (None ≡ x) × Pass xs

pub all_pass : (xs : List (Option Fault)) → None ≡ first_fault xs → Pass xs
all_pass [] none = tt
all_pass (None ∷ xs) none = (refl, all_pass xs none)
all_pass (Some f ∷ xs) none = let z : ◌≡◌ {A = ℕ} 0 1 = cc in absurd (omega arith)

-- the checks up to the one that decides
pub data Reaches : Option Fault → List (Option Fault) → Type 0 where
  -- all have passed
  end : Reaches None []
  -- one that fails is the verdict
  stop : {f : Fault} {x : Option Fault} {rest : List (Option Fault)} → Some f ≡ x → Reaches (Some f) (x ∷ rest)
  -- the verdict of the rest is known
  known_rest : {v : Option Fault} {rest : List (Option Fault)} → v ≡ first_fault rest → Reaches v rest
  -- one that passes leaves the verdict to those after it
  pass : {v : Option Fault} {x : Option Fault} {rest : List (Option Fault)} → None ≡ x → Reaches v rest → Reaches v (x ∷ rest)
  -- of several checks in front, taken together
  stop_in : {f : Fault} (part rest : List (Option Fault)) → Some f ≡ first_fault part → Reaches (Some f) (part ++ rest)
  pass_all : {v : Option Fault} (part rest : List (Option Fault)) → None ≡ first_fault part → Reaches v rest → Reaches v (part ++ rest)

decides : {v : Option Fault} {checks : List (Option Fault)} → Reaches v checks → v ≡ first_fault checks
decides end = refl
decides (stop {rest = rest} some) = ap (λ y. first_fault (y ∷ rest)) some
decides (known_rest verdict) = verdict
decides (pass {rest = rest} none later) = decides later ∙ ap (λ y. first_fault (y ∷ rest)) none
decides (stop_in {f} part rest some) = one_before part rest f some
decides (pass_all part rest none later) = decides later ∙ sym (none_before part rest none)

pub verdict_of : (v : Option Fault) (checks : List (Option Fault)) → Reaches v checks → v ≡ first_fault checks
verdict_of v checks way = decides way

pub judged_err : {X : Type 0} {P : X → Type 0} {r : Result X Fault} {f : Fault} {checks : List (Option Fault)} → r ≡ Err f → Reaches (Some f) checks → Judged checks P r
judged_err {P = P} e way = record { verdict = ap fault_in e ∙ decides way; ready = subst (λ x. IfOk x P) (sym e) tt }

pub judged_ok : {X : Type 0} {P : X → Type 0} {checks : List (Option Fault)} (v : X) → Reaches None checks → P v → Judged checks P (Ok v)
judged_ok v way ready = record { verdict = decides way; ready = ready }

-- the fault of an answer that is an Err, or an Ok
pub err_fault : {X : Type 0} {r : Result X Fault} {f : Fault} {x : Option Fault} → r ≡ Err f → Some f ≡ x → fault_in r ≡ x
err_fault e h = ap fault_in e ∙ h

pub ok_fault : {X : Type 0} {r : Result X Fault} {v : X} {x : Option Fault} → r ≡ Ok v → fault_in r ≡ x → None ≡ x
ok_fault e h = ap fault_in (sym e) ∙ h

pub ok_operand : {X : Type 0} {r : Result X OperandFault} {v : X} {x : Option ℕ} → r ≡ Ok v → refused_at r ≡ x → None ≡ bad_at x
ok_operand e h = ap bad_at (ap refused_at (sym e) ∙ h)

pub err_operand : {X : Type 0} {r : Result X OperandFault} {f : OperandFault} {x : Option ℕ} → r ≡ Err f → refused_at r ≡ x → Some (Operand f) ≡ bad_at x
err_operand e h = ap bad_at (ap refused_at (sym e) ∙ h)

-- a test that must hold
pub holds_test : (b : Bool) (f : Fault) → b ≡ true → None ≡ unless b f
holds_test b f t = ap (λ x. unless x f) (sym t)

pub fails_test : (b : Bool) (f : Fault) → b ≡ false → Some f ≡ unless b f
fails_test b f t = ap (λ x. unless x f) (sym t)

-- a test that passed
pub passed : (b : Bool) (f : Fault) → None ≡ unless b f → b ≡ true
passed true f none = refl
passed false f none = let z : ◌≡◌ {A = ℕ} 0 1 = cc in absurd (omega arith)

-- Every booked call keeps the devices' totals in agreement with their declared watt-hours. Assumes nothing.
use Rattle.std.proofs.Common.{◌≡◌, ℕ, ◌+◌, ◌/◌, ◌%◌, ◌≤◌, true, false, cond, ◌∷◌, sym, ap, ◌∙◌, subst, ⊎_elim, arith}
use Rattle.std.proofs.lemmas.Bool.{cases_Bool, cond-true, cond-false}
use Rattle.figures.specs.Limits.{certificate_size, last_certificate_number}
use Rattle.books.proofs.Ledgers.{matches_self, tests_differ}
use Rattle.books.specs.Numbers.{device_order_total}
use Rattle.order_file.specs.declared.orders.Declare.{Declare}
use Rattle.order_file.specs.declared.orders.RegisterDevice.{RegisterDevice}
use Rattle.register.specs.Bookings.{registration, declaration}
use Rattle.register.specs.Checks.{device_totals, wanted, left}
use Rattle.register.specs.State.{State, is_device, has_device}
use Rattle.register.specs.declared.calls.Call.TheVariants as call
use Rattle.reckoning.specs.Agreement.{totals_of}
use Rattle.reckoning.specs.Reckoned.{History, declared, issued_by, issued}
use Rattle.reckoning.proofs.Invariant.{Sound, Energies}
use Rattle.reckoning.proofs.MemberTotals.{totals_joined, totals_changed_in, totals_changed_elsewhere}
use Rattle.reckoning.proofs.SoundKept.{same_device}

-- what a declaration wants is what is reckoned
pub wanted_is : (h : History) (o : Declare) (s : State) → Energies h s → wanted o s ≡ issued_by h o
wanted_is h o s energies = omega (arith, energies.remainder o.device)

pub energies_registration : (h : History) (o : RegisterDevice) (s : State) → Energies h s → Energies (call.Device o ∷ h) (registration o s)
unfolding declared
energies_registration h o s energies = record {
  remainder = λ d. ap (λ t. t.0) (totals_joined (is_device d) o.device s.devices) ∙ energies.remainder d;
  certificates = λ d. ap (λ t. t.1) (totals_joined (is_device d) o.device s.devices) ∙ energies.certificates d;
}

module _ (h : History) (o : Declare) (s : State) (sound : Sound h) (energies : Energies h s) (known : has_device o.device s ≡ true) (numbers : issued h + issued_by h o ≤ last_certificate_number) where
  abbrev after : ℕ → ℕ × ℕ
  after d = totals_of (is_device d) (declaration o s).devices

  -- the device of the declaration
  this_device : ((after o.device).0 ≡ (declared h o.device + o.energy) % certificate_size) × ((after o.device).1 ≡ (declared h o.device + o.energy) / certificate_size)
  this_device =
      let d = o.device in
      let both = totals_changed_in (is_device d) (λ _. left o s) (λ _. (device_totals d s).1 + wanted o s) s.devices ∙ cond-true _ _ _ known in (
        ap (λ t. t.0) both ∙ omega (arith, energies.remainder d),
        ap (λ t. t.1) both ∙ omega (arith, energies.certificates d, wanted_is h o s energies, sound.due d, numbers),
      )

  other_device : (d : ℕ) → (d ≡ o.device → ⊥) → after d ≡ totals_of (is_device d) s.devices
  other_device d differs =
      totals_changed_elsewhere (is_device d) (is_device o.device) (tests_differ device_order_total o.device d (λ e. differs (sym e))) _ _ s.devices

  declared_this : declared (call.Declaration o ∷ h) o.device ≡ declared h o.device + o.energy
  unfolding declared
  declared_this = ap (λ b. declared h o.device + cond b o.energy 0) (matches_self device_order_total o.device)

  declared_other : (d : ℕ) → is_device d o.device ≡ false → declared (call.Declaration o ∷ h) d ≡ declared h d
  unfolding declared
  declared_other d b = ap (λ x. declared h d + cond x o.energy 0) b ∙ omega arith

  pub energies_declaration : Energies (call.Declaration o ∷ h) (declaration o s)
  energies_declaration = record {
    remainder = λ d. ⊎_elim
        (λ b. let same = same_device d o.device b in subst (λ x. (after x).0 ≡ declared (call.Declaration o ∷ h) x % certificate_size) (sym same) (this_device.0 ∙ ap (λ n. n % certificate_size) (sym declared_this)))
        (λ b. ap (λ t. t.0) (other_device d (differs d b)) ∙ energies.remainder d ∙ ap (λ n. n % certificate_size) (sym (declared_other d b)))
        (cases_Bool (is_device d o.device));
    certificates = λ d. ⊎_elim
        (λ b. let same = same_device d o.device b in subst (λ x. (after x).1 ≡ declared (call.Declaration o ∷ h) x / certificate_size) (sym same) (this_device.1 ∙ ap (λ n. n / certificate_size) (sym declared_this)))
        (λ b. ap (λ t. t.1) (other_device d (differs d b)) ∙ energies.certificates d ∙ ap (λ n. n / certificate_size) (sym (declared_other d b)))
        (cases_Bool (is_device d o.device));
  }
    where
      differs : (d : ℕ) → is_device d o.device ≡ false → d ≡ o.device → ⊥
      differs d b e = Rattle.std.proofs.lemmas.Bool.both_ways _ b (ap (λ x. is_device x o.device) e ∙ matches_self device_order_total o.device)

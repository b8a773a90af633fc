-- What a register bit drives comes from it, and nothing else.
use Rattle.std.proofs.Common.{◌≡◌, ℕ, zero, suc, ◌+◌, ◌-◌, refl, sym, ◌∙◌, ap, subst, inl, inr, true, Option, Some, None}
use Rattle.std.specs.Prelude.{slice_get}
use Rattle.std.proofs.lemmas.Bool.{cases_Bool, cond-false, cond-true}
use Rattle.circuit.specs.Acyclic.{AreDrivesInside, IsDrivenOnce}
use Rattle.circuit.specs.Valid.{net_holds}
use Rattle.circuit.specs.Valuation.{covers, drive_of}
use Rattle.circuit.specs.declared.netlist.By.{By}
use Rattle.circuit.specs.declared.netlist.By.TheVariants as by
use Rattle.circuit.specs.declared.netlist.Circuit.{Circuit}
use Rattle.circuit.specs.declared.netlist.Drive.{Drive}
use Rattle.driver_check.specs.Depends.{Bit}
use Rattle.driver_check.proofs.Owned.{covered_is_bit}
use Rattle.design_starts.specs.Driven.{Drives, DrivesThrough, IsGiven}
use Rattle.design_starts.specs.Origins.{origin, origin_at, origin_by, origin_within}
use Rattle.design_starts.proofs.Bits.{bit_holds}
use Rattle.design_starts.proofs.Found.{find_first, find_none}
use Rattle.design_starts.proofs.Origins.{origin_found}

module _ (c : Circuit) (once : IsDrivenOnce c) (inside : AreDrivesInside c) where
  given_drive : (x : Bit) (driver : ℕ → By) (i : ℕ) (g : IsGiven c x driver i) → drive_of c x.0 x.1 ≡ Some g.drive
  given_drive x driver i g = one (drive_of c x.0 x.1) refl
    where
      one : (m : Option Drive) → drive_of c x.0 x.1 ≡ m → drive_of c x.0 x.1 ≡ Some g.drive
      one None e = absurd (find_none (covers x.0 x.1) c.drives e g.place g.drive g.stands g.covered)
      one (Some d) e =
          let f = find_first (covers x.0 x.1) c.drives d e in
          let p : f.0 ≡ g.place = once f.0 g.place x.0 x.1 d g.drive f.1 g.stands f.2 g.covered in
          e ∙ sym f.1 ∙ ap (slice_get c.drives) p ∙ g.stands

  given_origin : (s : ℕ) (x : Bit) (driver : ℕ → By) (i : ℕ) (g : IsGiven c x driver i) → origin_within c (suc s) x.0 x.1 ≡ origin_by (origin_within c s) (driver g.from) (x.1 - g.drive.at)
  unfolding origin_within
  given_origin s x driver i g =
      cond-true (net_holds c.nets x.0 (suc x.1)) (origin_at (origin_within c s) x.1 (drive_of c x.0 x.1)) None (bit_holds c.nets x.0 x.1 (covered_is_bit c inside g.place x (g.drive, g.stands, g.covered)))
      ∙ ap (origin_at (origin_within c s) x.1) (given_drive x driver i g)
      ∙ ap (λ (b : By). origin_by (origin_within c s) b (x.1 - g.drive.at)) g.by

  through : (r : Bit) (wires : ℕ) (x : Bit) → DrivesThrough c r wires x → origin_within c (suc wires) x.0 x.1 ≡ Some r
  unfolding DrivesThrough
  through r zero x g = given_origin 0 x (by.Reg r.0) r.1 g ∙ ap (λ (k : ℕ). let b : Bit = (r.0, k) in Some b) g.bit
  through r (suc wires) x d =
      given_origin (suc wires) x (by.Wire d.0.0) d.0.1 d.1 ∙ ap (origin_within c (suc wires) d.0.0) d.1.bit ∙ through r wires d.0 d.2

  pub driven_origin : (r x : Bit) → Drives c r x → origin c x.0 x.1 ≡ Some r
  driven_origin r x d = origin_found c (suc d.0) x.0 x.1 r (through r d.0 x d.1)

pub driven_back : (c : Circuit) (s : ℕ) (x r : Bit) → origin_within c s x.0 x.1 ≡ Some r → Drives c r x
unfolding origin_within DrivesThrough
driven_back c zero x r e = cc e
driven_back c (suc s) x r e = elim (cases_Bool (net_holds c.nets x.0 (suc x.1))) [
  | inl on ↦ by_drive (λ y f. driven_back c s y r f) (drive_of c x.0 x.1) refl (sym (cond-true (net_holds c.nets x.0 (suc x.1)) (origin_at (origin_within c s) x.1 (drive_of c x.0 x.1)) None on) ∙ e)
  | inr off ↦ (let z : None ≡ Some r = sym (cond-false (net_holds c.nets x.0 (suc x.1)) (origin_at (origin_within c s) x.1 (drive_of c x.0 x.1)) None off) ∙ e in cc z)
]
  where
    by_driver : ((y : Bit) → origin_within c s y.0 y.1 ≡ Some r → Drives c r y) → (d : Drive) (i : ℕ) → slice_get c.drives i ≡ Some d → covers x.0 x.1 d ≡ true → (b : By) → d.by ≡ b → origin_by (origin_within c s) b (x.1 - d.at) ≡ Some r → Drives c r x
    by_driver back d i at cov (by.Const v) is f = cc f
    by_driver back d i at cov (by.Input n from) is f = cc f
    by_driver back d i at cov (by.Wire n from) is f =
        let y : Bit = (n, from + (x.1 - d.at)) in
        let more = back y f in
        (suc more.0, (y, record { place = i; drive = d; from = from; stands = at; covered = cov; by = is; bit = refl }, more.1))
    by_driver back d i at cov (by.Cell n from) is f = cc f
    by_driver back d i at cov (by.Reg n from) is f =
        let y : Bit = (n, from + (x.1 - d.at)) in
        let same : Some y ≡ Some r = f in
        let z : y ≡ r = cc same in
        subst (λ (q : Bit). Drives c q x) z (0, record { place = i; drive = d; from = from; stands = at; covered = cov; by = is; bit = refl })
    by_driver back d i at cov (by.Read m n from) is f = cc f

    by_drive : ((y : Bit) → origin_within c s y.0 y.1 ≡ Some r → Drives c r y) → (m : Option Drive) → drive_of c x.0 x.1 ≡ m → origin_at (origin_within c s) x.1 (drive_of c x.0 x.1) ≡ Some r → Drives c r x
    by_drive back None is f = let z : None ≡ Some r = sym (ap (origin_at (origin_within c s) x.1) is) ∙ f in cc z
    by_drive back (Some d) is f =
        let found = find_first (covers x.0 x.1) c.drives d is in
        by_driver back d found.0 found.1 found.2 d.by refl (sym (ap (origin_at (origin_within c s) x.1) is) ∙ f)

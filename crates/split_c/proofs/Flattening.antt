-- Each answer of a service as numbers, by the service's ways out. `n` is what `numbers` makes of the refusal.
use Prim.Native.Nat.{ℕ, ◌-◌}
use native.Mathlib.Omega.{arith}
use mathlib.Core.Path.{◌≡◌, refl, ap, sym, ◌∙◌}
use mathlib.Core.List.{List}
use mathlib.Core.Option.{some, none, some-ne-none, some-injective}
use Rattle.std.specs.Prelude.{Ok, Err}
use Rattle.model.specs.declared.Refusal as D
use Rattle.model.specs.Cases.{tabled}
use Rattle.model.specs.Refusal.{Refusal, Checked, refused, passed, refusal_of}
use Rattle.model.specs.Services.{Part, name, handed_back, name_refusal}
use Rattle.name_service.specs.declared.NamePart.{NamePart}
use Rattle.name_service.specs.Parts.{part_refusal, part_in, Named}
use Rattle.thin_service.specs.declared.Kept.{Kept}
use Rattle.answers.specs.declared.RefusalNumbers.{RefusalNumbers}
use Rattle.answers.specs.Answers.{numbered}
use Rattle.thin_service.specs.Answers.{thinned}
use Rattle.split_c.specs.Flat.{flat_part, flat_set}

-- ---- name

-- a refusal, or the ends of the part that is handed back
of_refusal : (c : Checked Part) {x : Refusal} (n : RefusalNumbers) → some x ≡ refusal_of c → numbered n ≡ x
    → record { number = n.number; detail = n.detail; second = n.second; from = 0; size = 0 } ≡ flat_part c
unfolding flat_part numbered
of_refusal (refused r) n e q = ap (λ (y : Refusal). flat_part (refused y)) (q ∙ some-injective _ _ e)
of_refusal (passed p) n e q = absurd (some-ne-none _ e)

of_part : (c : Checked Part) → none ≡ refusal_of c → record { number = 0; detail = 0; second = 0; from = (handed_back c).from; size = (handed_back c).size } ≡ flat_part c
unfolding flat_part handed_back
of_part (refused r) e = absurd (some-ne-none _ (sym e))
of_part (passed p) e = refl

module _ {s : List ℕ} {e : ℕ} where
  pub name_refused : {why : D.Refusal} (n : RefusalNumbers) → Named s e (Err why) → numbered n ≡ tabled why
      → record { number = n.number; detail = n.detail; second = n.second; from = 0; size = 0 } ≡ flat_part (name s e)
  unfolding part_refusal name_refusal
  name_refused n h = of_refusal (name s e) n h.verdict

  pub name_passed : {part : NamePart} → Named s e (Ok part)
      → record { number = 0; detail = 0; second = 0; from = part.from; size = part.end - part.from } ≡ flat_part (name s e)
  unfolding part_refusal part_in name_refusal
  name_passed {part} h =
      let size : part.end - part.from ≡ (handed_back (name s e)).size = omega (arith, h.begins, h.ends) in
      rw (size, h.begins) (of_part (name s e) h.verdict)

-- ---- thin

module _ {c : Checked (ℕ × ℕ)} where
  pub set_refused : (why : D.Refusal) (n : RefusalNumbers) → thinned (Err why) ≡ c → numbered n ≡ tabled why
      → record { number = n.number; detail = n.detail; second = n.second; machines = 0; size = 0 } ≡ flat_set c
  unfolding flat_set thinned numbered
  set_refused why n h q = rw (← h) (ap (λ (r : Refusal). flat_set (refused r)) q)

  pub set_kept : (kept : Kept) (machines : ℕ) → thinned (Ok kept) ≡ c → machines ≡ kept.machines
      → record { number = 0; detail = 0; second = 0; machines = machines; size = kept.size } ≡ flat_set c
  unfolding flat_set thinned
  set_kept kept machines h m = rw (← h, m)

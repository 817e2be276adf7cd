-- Thin, by its ways out.
use Prim.Native.Nat.{ℕ}
use mathlib.Core.Path.{◌≡◌, ap, sym}
use mathlib.Core.List.{List}
use Rattle.std.specs.Prelude.{Result, Ok, Err}
use Rattle.model.specs.declared.Refusal as D
use Rattle.model.specs.Cases.{tabled}
use Rattle.model.specs.Refusal.{refused}
use Rattle.model.specs.Text.{system}
use Rattle.model.specs.Services as Services
use Rattle.model.specs.Services.{as_far_as12}
use Rattle.rows.specs.declared.Tables.{Tables}
use Rattle.rows.specs.Told.{system_of}
use Rattle.model.specs.TransitionSystem.{TransitionSystem}
use Rattle.irredundant.specs.declared.Kept.{Kept}
use Rattle.irredundant.specs.Kept.{ThinsTo, Thins}
use Rattle.thin_service.specs.Answers.{thinned, numbered_set}
use Rattle.stages.specs.Stages.{Past10}
use Rattle.stages.proofs.Stages.{covered_12, refused_cover}

pub thin_refused : (s : List ℕ) (why : D.Refusal) → as_far_as12 s ≡ refused (tabled why) → thinned (Err why) ≡ numbered_set (Services.thin s)
unfolding Services.thin thinned numbered_set
thin_refused s why e = rw e

module _ {s : List ℕ} {p : Tables} {pre post excited : List ℕ} (k : Past10 s p pre post excited) where
  -- what the rows say of 11 and 12 and of thinning is what the model says
  pub thins_told : {r : Result Kept D.Refusal} → Thins p.counts pre p.place excited r → ThinsTo (system k.held.value) k.held.value.machines r
  unfolding system_of
  thins_told t =
      let h = k.held.told in
      t.thins _ _ post k.cover (sym (ap (λ (x : TransitionSystem). x.states) h.tells_system)) (sym (ap (λ (x : TransitionSystem). x.events) h.tells_system))
      (sym h.tells_machines.counted)

  -- so it is what Thin answers
  thins_as : (r : Result Kept D.Refusal) → ThinsTo (system k.held.value) k.held.value.machines r → thinned r ≡ numbered_set (Services.thin s)
  unfolding Services.thin Services.kept_of thinned numbered_set ThinsTo
  thins_as (Err why) t = thin_refused s why (refused_cover k why t)
  thins_as (Ok x) (covered, keeps) = rw (covered_12 k covered, keeps.machines, keeps.size)

  pub thins : (r : Result Kept D.Refusal) → Thins p.counts pre p.place excited r → thinned r ≡ numbered_set (Services.thin s)
  thins r t = thins_as r (thins_told t)

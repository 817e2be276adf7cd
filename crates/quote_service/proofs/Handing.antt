-- Quote, by its ways out.
use Prim.Native.Nat.{ℕ, ◌+◌, ◌<◌, ◌≤◌}
use native.Mathlib.Omega.{arith}
use mathlib.Core.Path.{◌≡◌, refl, ap, ◌∙◌, subst}
use mathlib.Core.List.{List, ◌++◌}
use lib.ListN.{length, take, drop}
use lib.Seq.{sets, sets-eq, take-append_seam}
use Rattle.std.specs.Prelude.{Result, Ok, Err}
use Rattle.model.specs.declared.Refusal as D
use Rattle.model.specs.declared.Refusal.TheVariants.{BufferTooShort}
use Rattle.model.specs.Cases.{tabled}
use Rattle.model.specs.Refusal.{refused, passed}
use Rattle.model.specs.Text.{Input, system}
use Rattle.model.specs.Machine.{kept_marks}
use Rattle.model.specs.Services.{as_far_as12, lend, quote}
use Rattle.model.specs.Quotation.{is_kept, quotation}
use Rattle.rows.specs.declared.Tables.{Tables}
use Rattle.rows.proofs.Bounds.{limits}
use Rattle.state_set.specs.Member.{bit}
use Rattle.writers.specs.Written.{Writes}
use Rattle.irredundant.specs.declared.Kept.{Kept}
use Rattle.irredundant.specs.Kept.{ThinsTo, Thins}
use Rattle.irredundant.proofs.SetNumber.{set_number_bit}
use Rattle.quotation.specs.Lines.{row_quotation, QuotationReady}
use Rattle.quotation.proofs.Quoting.{told_quotation, quotation_fits, quotation_ready}
use Rattle.stages.specs.Stages.{Past10}
use Rattle.stages.proofs.Stages.{covered_12, refused_cover}
use Rattle.answers.specs.Answers.{answered}
use Rattle.answers.proofs.Lending.{Lends, lends_short, lends_written}
use Rattle.thin_service.proofs.Thinning.{thins_told}
use Rattle.quote_service.specs.Handed.{IsShort, HandsOver}

-- refused by 1 to 12
pub quote_refused : (s out : List ℕ) (why : D.Refusal) → as_far_as12 s ≡ refused (tabled why)
    → (answered (Err why) ≡ (quote s out).answer) × (out ≡ (quote s out).left)
unfolding answered quote lend
quote_refused s out why e = rw e (refl, refl)

-- ---- the quotation, written beside the buffer

module _ (out q : List ℕ) {beside written : List ℕ} {size : ℕ} (w : Writes q 0 beside size written) where
  pub as_long : size ≡ length q
  as_long = let z : 0 + length q ≡ length q = omega arith in w.after ∙ z

  pub short_buffer : length out < size → Lends out q size as_long (Err (BufferTooShort size)) out
  short_buffer l = lends_short out q size as_long l

  -- its first bytes are the quotation
  pub copied : length q ≤ length beside → size ≤ length out → {r : ℕ} {left : List ℕ} → Writes (take size written) 0 out r left
      → Lends out q size as_long (Ok size) left
  copied h l {r} {left} c = lends_written out q size as_long left l (c.bytes_left ∙ ap (sets out 0) first)
    where
      whole : written ≡ q ++ drop (0 + length q) beside
      whole = w.bytes_left ∙ sets-eq q beside 0 (omega (arith, h))

      first : take size written ≡ q
      first = rw (as_long, whole) (take-append_seam q (drop (0 + length q) beside))

-- ---- past 10

module _ {s : List ℕ} {p : Tables} {pre post excited : List ℕ} (k : Past10 s p pre post excited) where
  abbrev value : Input
  value = k.held.value

  -- what a quotation asks for is at hand, and it is short, whichever machines are kept
  pub rows_ready : QuotationReady s p.counts p.name_at p.name_len p.sizes pre
  rows_ready = quotation_ready k.held.bounds k.held.sized k.held.names k.cover.moves.rows

  pub rows_short : (kept : ℕ) → IsShort s p.counts p.name_at p.name_len p.sizes pre kept
  rows_short kept = quotation_fits k.held.told k.cover.moves (limits s value k.held.passes) kept

  -- 11 or 12
  pub cover_refused : (out : List ℕ) {why : D.Refusal} → Thins p.counts pre p.place excited (Err why)
      → (answered (Err why) ≡ (quote s out).answer) × (out ≡ (quote s out).left)
  unfolding ThinsTo
  cover_refused out {why} t = quote_refused s out why (refused_cover k why (thins_told k t))

  -- the quotation of the machines that are kept
  pub handed_over : (out : List ℕ) (x : Kept) (a : Result ℕ D.Refusal) (left : List ℕ) → Thins p.counts pre p.place excited (Ok x)
      → HandsOver s p.counts p.name_at p.name_len p.sizes pre x.machines out a left → (answered a ≡ (quote s out).answer) × (left ≡ (quote s out).left)
  unfolding ThinsTo quote quotation is_kept
  handed_over out x a left t h =
      let (covered, keeps) = thins_told k t in
      let marks = kept_marks (system value) value.machines in
      let told : row_quotation s p.counts p.name_at p.name_len p.sizes pre x.machines ≡ quotation value =
      told_quotation k.held.told k.cover.moves x.machines marks (λ j l. ap (λ (y : ℕ). bit y j) keeps.machines ∙ set_number_bit marks j) in
      rw (covered_12 k covered) (subst (λ (q : List ℕ). (answered a ≡ (lend (passed q) out).answer) × (left ≡ (lend (passed q) out).left)) told h)

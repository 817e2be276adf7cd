-- The call quote: what request 6 says of it, for every text.
use Prim.Native.Nat.{ℕ, ◌≤◌, ◌<◌}
use native.Mathlib.Omega.{arith}
use mathlib.Core.Path.{◌≡◌, refl}
use mathlib.Core.Logic.{◌⊎◌, inl, inr}
use mathlib.Core.Bool.{Bool}
use mathlib.Core.List.{List, [], ◌∷◌}
use lib.IntN.{ℤ}
use lib.Dec.{leb, leb→le, le→leb}
use lib.ListN.{length, get_or}
use Rattle.model.specs.Refusal.{Refusal, refuse}
use Rattle.model.specs.Machine.{kept_marks}
use Rattle.model.specs.Text.{Input, system, Limits}
use Rattle.model.specs.Table.{Refused, Passes}
use Rattle.model.specs.Services.{as_far_as12, kept_of, quote, written_refusal}
use Rattle.model.specs.Printed.{printed_quote, printed_by, fitting}
use Rattle.model.specs.Cents.{sum}
use Rattle.model.specs.Demands.{Lends}
use Rattle.model.specs.Quotation.{Item, Charge, total, written_item, written_charge, charges, written_total, written_charges, quotation}
use Rattle.model.specs.Quoted.{Quoted, Quoting, Sums, nothing, and, About, a_machine, a_wire, a_credit, LineBytes, line_bytes, Costs, machine_costs, wire_costs, credit_costs}
use Rattle.model.proofs.Laws.{T_true, T_false, not_T}
use Rattle.model.proofs.Positions.{at_get_d}
use Rattle.model.proofs.Verdicts.{decides, verdict12}
use Rattle.model.proofs.Lending.{lends}
use Rattle.model.proofs.Demands.{Left12, left12, keeps}
use Rattle.model.proofs.Texts.{limits_of}
use Rattle.model.proofs.Rising.{rising_at}
use Rattle.model.proofs.Charges.{charged, listed_all, in_order}
use Rattle.model.proofs.Longest.{amount_size, total_size, written_most}

summed : (cs : List Charge) → Sums cs (total cs)
unfolding total sum
summed [] = nothing
summed (c ∷ cs) = and c (summed cs)

about : (v : Input) (marks : List Bool) (i : Item) {p : ℤ} → Costs (system v) v.machines marks i p → About v.names i (written_item v.names i)
unfolding written_item
about v marks i (machine_costs k m a t) = a_machine k
about v marks i (wire_costs e m h s two) = a_wire e (get_or v.names e []) (at_get_d v.names e [] h)
about v marks i (credit_costs k h t) = a_credit k

module _ (s : List ℕ) (lent : ℕ) where
  says_refusal : (r : Refusal) → Refused 12 s r → printed_quote s lent ≡ written_refusal r
  unfolding printed_quote printed_by
  says_refusal r f = rw (((decides 12 s (as_far_as12 s) (verdict12 s)).refuses r).1 f) refl

  says_short : (v : Input) → Passes 12 s v → lent < length (quotation v) → printed_quote s lent ≡ written_refusal (refuse 13 (length (quotation v)) 0)
  unfolding printed_quote printed_by fitting
  says_short v p h = rw (((decides 12 s (as_far_as12 s) (verdict12 s)).passes v).1 p, T_false (leb (length (quotation v)) lent) (not_T (leb (length (quotation v)) lent) (λ t. omega (arith, leb→le (length (quotation v)) lent t, h)))) refl

  says : (v : Input) → Passes 12 s v → length (quotation v) ≤ lent → printed_quote s lent ≡ quotation v
  unfolding printed_quote printed_by fitting
  says v p h = rw (((decides 12 s (as_far_as12 s) (verdict12 s)).passes v).1 p, T_true (leb (length (quotation v)) lent) (le→leb (length (quotation v)) lent h)) refl

quoted_of : (v : Input) → Limits v → Left12 v → Quoted v (kept_marks (system v) v.machines)
unfolding quotation written_charges written_total written_charge
quoted_of v w l =
    record {
      lines = charges (system v) v.machines marks;
      exactly = λ c. (
        charged (system v) v.machines marks l.left.left.within l.left.good l.left.left.listed c,
        listed_all (system v) v.machines marks l.left.left.within l.left.good l.left.left.listed c.item c.cents,
      );
      ordered = λ i j c d h p q. rising_at _ (charges (system v) v.machines marks) (in_order (system v) v.machines marks) i j c d h p q;
      written = refl;
      sums = summed (charges (system v) v.machines marks);
      each_line = λ c i. line c (charged (system v) v.machines marks l.left.left.within l.left.good l.left.left.listed c i).costs;
      small = amount_size v w marks;
      total_small = total_size v w marks;
      longest = written_most v w marks;
    }
  where
    marks : List Bool
    marks = kept_marks (system v) v.machines

    line : (c : Charge) {p : ℤ} → Costs (system v) v.machines marks c.item p → LineBytes v.names c (written_charge v.names c)
    line c h = line_bytes (written_item v.names c.item) (about v marks c.item h)

-- the quotation of a text that passes is short
pub quotation_most : (s : List ℕ) (v : Input) → Passes 12 s v → length (quotation v) ≤ 2566
quotation_most s v p = (quoted_of v (limits_of s v p.reads) (left12 s v p)).longest

quote_lends : (s out : List ℕ) → Lends (Refused 12 s) (Passes 12 s) quotation out (quote s out)
unfolding quote
quote_lends s out = let d = decides 12 s (as_far_as12 s) (verdict12 s) in lends (Refused 12 s) (Passes 12 s) (as_far_as12 s) d.refuses d.passes quotation out

pub quoting_holds : (s : List ℕ) → Quoting s
unfolding kept_of
quoting_holds s =
    record {
      lends = quote_lends s;
      quoted = λ v p. (kept_of v, (keeps s v p).0, quoted_of v (limits_of s v p.reads) (left12 s v p));
      prints_refusal = says_refusal s;
      prints_short = says_short s;
      prints = says s;
      suffices = λ out h r. (λ e. go out h r (((quote_lends s out).refuses r).0 e), λ f. ((quote_lends s out).refuses r).1 (inl f));
    }
  where
    go : (out : List ℕ) → 32768 ≤ length out → (r : Refusal)
        → Refused 12 s r ⊎ ((v : Input) × Passes 12 s v × (length out < length (quotation v)) × (r ≡ refuse 13 (length (quotation v)) 0)) → Refused 12 s r
    go out h r (inl f) = f
    go out h r (inr u) = absurd (omega (arith, u.2, quotation_most s u.0 u.1, h))

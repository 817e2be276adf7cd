-- What the model takes for the same of the code's types is the same: refusals with the same number and details, step records with the same transition.
use Prim.Native.Nat.{ℕ}
use mathlib.Core.Path.{◌≡◌, refl, ap, sym, ◌∙◌}
use mathlib.Core.Bool.{cond}
use mathlib.Core.List.{List, map}
use lib.Dec.{eqb}
use Rattle.model.specs.declared.Refusal as D
use Rattle.model.specs.declared.Refusal.TheVariants as C
use Rattle.model.specs.Refusal.{Refusal}
use Rattle.model.specs.declared.Transition as T
use Rattle.model.specs.TransitionSystem.{Transition}
use Rattle.model.specs.Cases.{tabled, recorded}
use Rattle.model.proofs.ListLaws.{map_map, map_same}

-- the case with this number and these details
case_of : Refusal → D.Refusal
case_of r = from 1 (C.Malformed a)
    (from 2 (C.LimitExceeded a)
    (from 3 (C.Undeclared a)
    (from 4 (C.SelfLoop a)
    (from 5 (C.Nondeterministic a b)
    (from 6 (C.UnusedEvent a)
    (from 7 (C.Unreachable a)
    (from 8 (C.DuplicateState a b)
    (from 9 (C.UncoveredState a b)
    (from 10 (C.NotARegion a b)
    (from 11 (C.IneffectiveEvent a)
    (from 12 (C.NotExcitationClosed a b)
    (from 13 (C.BufferTooShort a)
    (from 14 (C.UnknownEvent a)
    (from 15 (C.BadSheet a) (C.Malformed 0)))))))))))))))
  where
    a : ℕ
    a = r.detail

    b : ℕ
    b = r.second

    from : ℕ → D.Refusal → D.Refusal → D.Refusal
    from n x y = cond (eqb r.number n) x y

case_of_tabled : (x : D.Refusal) → case_of (tabled x) ≡ x
unfolding tabled case_of
case_of_tabled (C.Malformed line) = refl
case_of_tabled (C.LimitExceeded line) = refl
case_of_tabled (C.Undeclared line) = refl
case_of_tabled (C.SelfLoop line) = refl
case_of_tabled (C.Nondeterministic line earlier) = refl
case_of_tabled (C.UnusedEvent event) = refl
case_of_tabled (C.Unreachable state) = refl
case_of_tabled (C.DuplicateState machine state) = refl
case_of_tabled (C.UncoveredState machine state) = refl
case_of_tabled (C.NotARegion machine event) = refl
case_of_tabled (C.IneffectiveEvent event) = refl
case_of_tabled (C.NotExcitationClosed event state) = refl
case_of_tabled (C.BufferTooShort needed) = refl
case_of_tabled (C.UnknownEvent position) = refl
case_of_tabled (C.BadSheet line) = refl

pub tabled_injective : (x y : D.Refusal) → tabled x ≡ tabled y → x ≡ y
tabled_injective x y e = sym (case_of_tabled x) ∙ ap case_of e ∙ case_of_tabled y

-- the step record of a transition
abbrev record_of : Transition → T.Transition
record_of t = record { source = t.source; event = t.event; target = t.target }

-- told by their transitions, lists of records are told whole
pub records_injective : (xs ys : List T.Transition) → map recorded xs ≡ map recorded ys → xs ≡ ys
unfolding recorded
records_injective xs ys e = sym (back xs) ∙ ap (map record_of) e ∙ back ys
  where
    back : (zs : List T.Transition) → map record_of (map recorded zs) ≡ zs
    back zs = map_map record_of recorded zs ∙ map_same _ zs (λ z m. refl)

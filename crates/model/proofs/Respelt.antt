-- A text and a sheet with a name in capitals: what `respelling_holds` and `sheet_respelling_holds` ask for is met, and not only by the text or the sheet itself.
use Prim.Native.Nat.{ℕ, zero, suc}
use native.Mathlib.Omega.{arith}
use mathlib.Core.Path.{◌≡◌, refl, sym, subst}
use mathlib.Core.Logic.{inl}
use mathlib.Core.List.Memᴰ
use mathlib.Core.List.{[], ◌∷◌, flat_map, Memᴰ}
use mathlib.Core.Option.{none, none-ne-some, some-injective}
use lib.ListN.{take}
use Rattle.model.specs.Lists.{At, count}
use Rattle.model.specs.Bytes.{bytes, digits, Name, IsName, Letter, lower, is_capital, OneEvent, Among}
use Rattle.model.specs.Form.{states, events, step, written, written_start, is_machine_line}
use Rattle.model.specs.Table.{start, next}
use Rattle.model.specs.Sheet.{NamedMove, NamedLine, move_bytes, written_move, written_line, written_count}
use Rattle.model.specs.BoardTable.{OnSheet, GoodMove, GoodLine}
use Rattle.model.specs.Spelling.{RespeltText, RespeltSheet}

a : Name
a = bytes "a"

a_name : IsName a
unfolding a
a_name =
    record {
      least = omega arith;
      most = omega arith;
      letter = inl (omega arith, omega arith);
      each = λ b m. inl (subst Letter (sym (Memᴰ.eq_of_singleton m)) (inl (omega arith, omega arith)));
    }

pub capital_step : RespeltText (bytes "(states 2)\n(events a)\n(step 0 a 1)\n(machine (0) (1))\n") (bytes "(states 2)\n(events a)\n(step 0 A 1)\n(machine (0) (1))\n")
unfolding a count is_machine_line written written_start flat_map digits lower is_capital
capital_step =
    record {
      lines = states 2 none ∷ events (a ∷ []) ∷ step 0 a 1 ∷ [];
      rest = bytes "(machine (0) (1))\n";
      begins =
          next {ls = states 2 none ∷ events (a ∷ []) ∷ []} {rest = bytes "(machine (0) (1))\n"} (step 0 a 1) (omega arith, refl) (omega arith, a_name, omega arith)
          (next {ls = states 2 none ∷ []} {rest = bytes "(step 0 a 1)\n(machine (0) (1))\n"} (events (a ∷ [])) refl
          (λ e m. subst IsName (sym (Memᴰ.eq_of_singleton m)) a_name)
          (next {ls = []} {rest = bytes "(events a)\n(step 0 a 1)\n(machine (0) (1))\n"} (states 2 none) refl (omega arith, omega arith) start));
      others = states 2 none ∷ events (a ∷ []) ∷ step 0 (bytes "A") 1 ∷ [];
      respelt = (refl, (refl, ((bytes "A", refl, refl), tt)));
      bytes = refl;
    }

-- a machine with one move of this name
machine_of : Name → NamedLine
machine_of e = record { number = 0; place_count = 2; start = 0; moves = record { event = e; pre = 0; post = 1 } ∷ [] }

good_machine : GoodLine [] (machine_of a)
unfolding machine_of
good_machine =
    record {
      number = refl;
      places_least = omega arith;
      places_most = omega arith;
      start = omega arith;
      moves = λ x m. subst (GoodMove 2) (sym (Memᴰ.eq_of_singleton m)) (record { name = a_name; pre = omega arith; post = omega arith; differ = λ q. omega (arith, q) });
      once = once;
      names = record { names = a ∷ []; most = omega arith; all = all };
    }
  where
    alone : (i : ℕ) (x : NamedMove) → At (machine_of a).moves i x → i ≡ 0
    alone zero x p = refl
    alone (suc i) x p = absurd (none-ne-some x p)

    once : (i j : ℕ) (x y : NamedMove) → At (machine_of a).moves i x → At (machine_of a).moves j y → OneEvent x.event y.event → i ≡ j
    once i j x y p q o = omega (arith, alone i x p, alone j y q)

    all : (e : Name) → OnSheet (machine_of a ∷ []) e → Among e (a ∷ [])
    all e (l, m, (x, k, o)) =
        let q : x ≡ record { event = a; pre = 0; post = 1 } = Memᴰ.eq_of_singleton (subst (λ (z : NamedLine). Memᴰ x z.moves) (Memᴰ.eq_of_singleton m) k) in
        (a, Memᴰ.head refl, subst (λ (z : NamedMove). OneEvent e z.event) q o)

pub capital_move : RespeltSheet (bytes "(accepted 1)\n(machine 0 (places 2) (start 0) (move a 0 1))\n(") (bytes "(accepted 1)\n(machine 0 (places 2) (start 0) (move A 0 1))\n(")
unfolding a machine_of flat_map move_bytes written_move written_line written_count digits lower is_capital
capital_move =
    record {
      count = 1;
      board = machine_of a ∷ [];
      rest = bytes "(";
      begins = record { least = omega arith; most = omega arith; few = omega arith; good = good; bytes = refl };
      others = machine_of (bytes "A") ∷ [];
      respelt = (record { number = refl; place_count = refl; start = refl; moves = (record { event = refl; pre = refl; post = refl }, tt) }, tt);
      bytes = refl;
    }
  where
    good : (k : ℕ) (l : NamedLine) → At (machine_of a ∷ []) k l → GoodLine (take k (machine_of a ∷ [])) l
    good zero l p = subst (GoodLine []) (some-injective (machine_of a) l p) good_machine
    good (suc k) l p = absurd (none-ne-some l p)

-- Laws of running together, for any machines that are known by their moves.
use Prim.Native.Nat.{ℕ, zero, suc, ◌<◌}
use native.Mathlib.Omega.{arith}
use mathlib.Core.Path.{◌≡◌, refl, ap, sym, ◌∙◌, subst}
use mathlib.Core.Bool.{Bool, true, false, cond}
use mathlib.Core.List.{List, [], ◌∷◌}
use mathlib.Core.Option.{Option, none, some, some-injective, none-ne-some, some-ne-none}
use lib.Dec.{T}
use lib.ListN.{length, get_or}
use Rattle.model.specs.Lists.{At, exists, is_some, Pairwise}
use Rattle.model.specs.Product.{Move, both, Ran, one_more, in_alphabet, effective, fire, fire_all, product_step, blocker, run_from}
use Rattle.model.proofs.Laws.{cond_true}

module _ {M E : Type 0} (moves : M → E → Option Move) where
  -- ---- one event

  pub step_effective : (ms : List M) (qs : List ℕ) (e : E) → T (effective moves ms e) → product_step moves ms qs e ≡ fire_all moves e ms qs
  unfolding product_step
  step_effective ms qs e t = cond_true (effective moves ms e) (fire_all moves e ms qs) none t

  -- each machine goes
  pub all_fire : (e : E) (ms : List M) (qs rs : List ℕ) → length qs ≡ length ms → length rs ≡ length ms
      → ((k : ℕ) (m : M) → At ms k m → fire moves m e (get_or qs k 0) ≡ some (get_or rs k 0)) → fire_all moves e ms qs ≡ some rs
  unfolding fire_all both
  all_fire e [] [] [] a b f = refl
  all_fire e [] [] (r ∷ rs) a b f = absurd (omega arith)
  all_fire e [] (q ∷ qs) rs a b f = absurd (omega arith)
  all_fire e (m ∷ ms) [] rs a b f = absurd (omega arith)
  all_fire e (m ∷ ms) (q ∷ qs) [] a b f = absurd (omega arith)
  all_fire e (m ∷ ms) (q ∷ qs) (r ∷ rs) a b f = rw (f 0 m refl, all_fire e ms qs rs (omega arith) (omega arith) (λ k. f (suc k)))

  -- machine k is the lowest that blocks
  pub record Halts (e : E) (ms : List M) (qs : List ℕ) (k : ℕ) : Type 0 where
    pub machine : M
    pub numbered : At ms k machine
    pub stops : fire moves machine e (get_or qs k 0) ≡ none
    pub lower : (j : ℕ) (m : M) → j < k → At ms j m → T (is_some (fire moves m e (get_or qs j 0)))

  pub blocker_halts : (e : E) (ms : List M) (qs : List ℕ) → length qs ≡ length ms → fire_all moves e ms qs ≡ none → Halts e ms qs (blocker moves ms qs e)
  unfolding fire_all both blocker is_some
  blocker_halts e [] [] n h = absurd (some-ne-none [] h)
  blocker_halts e [] (q ∷ qs) n h = absurd (omega arith)
  blocker_halts e (m ∷ ms) [] n h = absurd (omega arith)
  blocker_halts e (m ∷ ms) (q ∷ qs) n h = go (fire moves m e q) refl h (blocker_halts e ms qs (omega arith))
    where
      go : (o : Option ℕ) → fire moves m e q ≡ o → both o (fire_all moves e ms qs) ≡ none → (fire_all moves e ms qs ≡ none → Halts e ms qs (blocker moves ms qs e))
          → Halts e (m ∷ ms) (q ∷ qs) (cond (is_some o) (suc (blocker moves ms qs e)) 0)
      go none f x ih = record { machine = m; numbered = refl; stops = f; lower = λ j v l a. absurd (omega arith) }
      go (some r) f x ih = next (ih (rest (fire_all moves e ms qs) x))
        where
          rest : (o : Option (List ℕ)) → both (some r) o ≡ none → o ≡ none
          rest none y = refl
          rest (some rs) y = absurd (some-ne-none (r ∷ rs) y)

          next : Halts e ms qs (blocker moves ms qs e) → Halts e (m ∷ ms) (q ∷ qs) (suc (blocker moves ms qs e))
          next i = record { machine = i.machine; numbered = i.numbered; stops = i.stops; lower = low }
            where
              low : (j : ℕ) (v : M) → j < suc (blocker moves ms qs e) → At (m ∷ ms) j v → T (is_some (fire moves v e (get_or (q ∷ qs) j 0)))
              low zero v l a = subst (λ (z : M). T (is_some (fire moves z e q))) (some-injective m v a) (rw f tt)
              low (suc j) v l a = i.lower j v (omega arith) a

  pub halts_blocker : (e : E) (ms : List M) (qs : List ℕ) (k : ℕ) → length qs ≡ length ms → Halts e ms qs k
      → (fire_all moves e ms qs ≡ none) × (blocker moves ms qs e ≡ k)
  unfolding fire_all both blocker is_some
  halts_blocker e [] qs k p h = absurd (none-ne-some h.machine h.numbered)
  halts_blocker e (m ∷ ms) [] k p h = absurd (omega arith)
  halts_blocker e (m ∷ ms) (q ∷ qs) zero p h =
      let s : m ≡ h.machine = some-injective m h.machine h.numbered in
      let n : fire moves m e q ≡ none = rw s h.stops in
      rw n (refl, refl)
  halts_blocker e (m ∷ ms) (q ∷ qs) (suc k) p h = go (fire moves m e q) refl (halts_blocker e ms qs k (omega arith) rest)
    where
      rest : Halts e ms qs k
      rest = record { machine = h.machine; numbered = h.numbered; stops = h.stops; lower = λ j n l a. h.lower (suc j) n (omega arith) a }

      go : (o : Option ℕ) → fire moves m e q ≡ o → (fire_all moves e ms qs ≡ none) × (blocker moves ms qs e ≡ k)
          → (both o (fire_all moves e ms qs) ≡ none) × (cond (is_some o) (suc (blocker moves ms qs e)) 0 ≡ suc k)
      go none f ih = absurd (rw f at (h.lower 0 m (omega arith) refl))
      go (some r) f ih = (rw ih.0, ap suc ih.1)

  -- no machine blocks
  pub none_blocks : (e : E) (ms : List M) (qs : List ℕ) → length qs ≡ length ms → ((k : ℕ) (m : M) → At ms k m → T (is_some (fire moves m e (get_or qs k 0))))
      → blocker moves ms qs e ≡ length ms
  unfolding blocker
  none_blocks e [] qs p f = refl
  none_blocks e (m ∷ ms) [] p f = absurd (omega arith)
  none_blocks e (m ∷ ms) (q ∷ qs) p f = cond_true (is_some (fire moves m e q)) (suc (blocker moves ms qs e)) 0 (f 0 m refl) ∙ ap suc (none_blocks e ms qs (omega arith) (λ k. f (suc k)))

  -- one place for each machine
  fired : (e : E) (ms : List M) (qs rs : List ℕ) → fire_all moves e ms qs ≡ some rs → length rs ≡ length ms
  unfolding fire_all both
  fired e [] [] rs h = ap length (sym (some-injective [] rs h))
  fired e [] (q ∷ qs) rs h = absurd (none-ne-some rs h)
  fired e (m ∷ ms) [] rs h = absurd (none-ne-some rs h)
  fired e (m ∷ ms) (q ∷ qs) rs h = go (fire moves m e q) (fire_all moves e ms qs) (fired e ms qs) h
    where
      go : (o : Option ℕ) (os : Option (List ℕ)) → ((ps : List ℕ) → os ≡ some ps → length ps ≡ length ms) → both o os ≡ some rs
          → length rs ≡ length (m ∷ ms)
      go none os ih x = absurd (none-ne-some rs x)
      go (some p) none ih x = absurd (none-ne-some rs x)
      go (some p) (some ps) ih x = ap length (sym (some-injective (p ∷ ps) rs x)) ∙ ap suc (ih ps refl)

  stepped : (e : E) (ms : List M) (qs rs : List ℕ) → product_step moves ms qs e ≡ some rs → length rs ≡ length ms
  unfolding product_step
  stepped e ms qs rs h = go (effective moves ms e) h
    where
      go : (b : Bool) → cond b (fire_all moves e ms qs) none ≡ some rs → length rs ≡ length ms
      go true x = fired e ms qs rs x
      go false x = absurd (none-ne-some rs x)

  -- ---- a list of events

  abbrev pub stopped : List M → List ℕ → E → Ran
  stopped ms qs e = record { ran = 0; blocked = some (blocker moves ms qs e); places = qs }

  pub run_stops : (ms : List M) (qs : List ℕ) (e : E) (es : List E) → product_step moves ms qs e ≡ none → run_from moves ms qs (e ∷ es) ≡ stopped ms qs e
  unfolding run_from
  run_stops ms qs e es h = rw (h, run_from)

  pub run_goes : (ms : List M) (qs rs : List ℕ) (e : E) (es : List E) → product_step moves ms qs e ≡ some rs → run_from moves ms qs (e ∷ es) ≡ one_more (run_from moves ms rs es)
  unfolding run_from
  run_goes ms qs rs e es h = rw (h, run_from)

  pub run_length : (ms : List M) (es : List E) (qs : List ℕ) → length qs ≡ length ms → length (run_from moves ms qs es).places ≡ length ms
  unfolding run_from one_more
  run_length ms [] qs h = h
  run_length ms (e ∷ es) qs h = go (product_step moves ms qs e) refl (run_length ms es)
    where
      go : (o : Option (List ℕ)) → product_step moves ms qs e ≡ o → ((rs : List ℕ) → length rs ≡ length ms → length (run_from moves ms rs es).places ≡ length ms)
          → length (run_from moves ms qs (e ∷ es)).places ≡ length ms
      go none x ih = ap (λ (r : Ran). length r.places) (run_stops ms qs e es x) ∙ h
      go (some rs) x ih = ap (λ (r : Ran). length r.places) (run_goes ms qs rs e es x) ∙ ih rs (stepped e ms qs rs x)

  -- the list ran to its end, or the machines do not take the next event
  pub data RunEnd (ms : List M) (es : List E) (r : Ran) : Type 0 where
    ended : r.blocked ≡ none → r.ran ≡ length es → RunEnd ms es r
    halted : (e : E) → At es r.ran e → r.blocked ≡ some (blocker moves ms r.places e) → product_step moves ms r.places e ≡ none → RunEnd ms es r

  pub run_end : (ms : List M) (es : List E) (qs : List ℕ) → RunEnd ms es (run_from moves ms qs es)
  unfolding run_from one_more
  run_end ms [] qs = ended refl refl
  run_end ms (e ∷ es) qs = go (product_step moves ms qs e) refl (run_end ms es)
    where
      go : (o : Option (List ℕ)) → product_step moves ms qs e ≡ o → ((rs : List ℕ) → RunEnd ms es (run_from moves ms rs es)) → RunEnd ms (e ∷ es) (run_from moves ms qs (e ∷ es))
      go none h ih = subst (RunEnd ms (e ∷ es)) (sym (run_stops ms qs e es h)) (halted e refl refl h)
      go (some rs) h ih = subst (RunEnd ms (e ∷ es)) (sym (run_goes ms qs rs e es h)) (one_more_lem (ih rs))
        where
          one_more_lem : RunEnd ms es (run_from moves ms rs es) → RunEnd ms (e ∷ es) (one_more (run_from moves ms rs es))
          one_more_lem (ended x y) = ended x (ap suc y)
          one_more_lem (halted d a x z) = halted d a x z

-- ---- machines and events that are known in two ways: each machine has for the event d the move that its number in the other list has for e
module _ {M N D E : Type 0} (f : M → D → Option Move) (g : N → E → Option Move) where
  pub record SameMoves (ms : List M) (ns : List N) (d : D) (e : E) : Type 0 where
    pub one_each : length ms ≡ length ns
    pub each : (k : ℕ) (m : M) (n : N) → At ms k m → At ns k n → f m d ≡ g n e

  others : (m : M) (ms : List M) (n : N) (ns : List N) (d : D) (e : E) → SameMoves (m ∷ ms) (n ∷ ns) d e → SameMoves ms ns d e
  others m ms n ns d e s = record { one_each = omega (arith, s.one_each); each = λ k. s.each (suc k) }

  pub same_effective : (ms : List M) (ns : List N) (d : D) (e : E) → SameMoves ms ns d e → effective f ms d ≡ effective g ns e
  unfolding effective exists in_alphabet
  same_effective [] [] d e s = refl
  same_effective [] (n ∷ ns) d e s = absurd (omega (arith, s.one_each))
  same_effective (m ∷ ms) [] d e s = absurd (omega (arith, s.one_each))
  same_effective (m ∷ ms) (n ∷ ns) d e s = rw (s.each 0 m n refl refl, same_effective ms ns d e (others m ms n ns d e s))

  same_fire : (ms : List M) (ns : List N) (d : D) (e : E) (qs : List ℕ) → SameMoves ms ns d e → fire_all f d ms qs ≡ fire_all g e ns qs
  unfolding fire_all fire
  same_fire [] [] d e [] s = refl
  same_fire [] [] d e (q ∷ qs) s = refl
  same_fire [] (n ∷ ns) d e qs s = absurd (omega (arith, s.one_each))
  same_fire (m ∷ ms) [] d e qs s = absurd (omega (arith, s.one_each))
  same_fire (m ∷ ms) (n ∷ ns) d e [] s = refl
  same_fire (m ∷ ms) (n ∷ ns) d e (q ∷ qs) s = rw (s.each 0 m n refl refl, same_fire ms ns d e qs (others m ms n ns d e s))

  same_blocker : (ms : List M) (ns : List N) (d : D) (e : E) (qs : List ℕ) → SameMoves ms ns d e → blocker f ms qs d ≡ blocker g ns qs e
  unfolding blocker fire
  same_blocker [] [] d e qs s = refl
  same_blocker [] (n ∷ ns) d e qs s = absurd (omega (arith, s.one_each))
  same_blocker (m ∷ ms) [] d e qs s = absurd (omega (arith, s.one_each))
  same_blocker (m ∷ ms) (n ∷ ns) d e [] s = refl
  same_blocker (m ∷ ms) (n ∷ ns) d e (q ∷ qs) s = rw (s.each 0 m n refl refl, same_blocker ms ns d e qs (others m ms n ns d e s))

  same_step : (ms : List M) (ns : List N) (d : D) (e : E) (qs : List ℕ) → SameMoves ms ns d e → product_step f ms qs d ≡ product_step g ns qs e
  unfolding product_step
  same_step ms ns d e qs s = rw (same_effective ms ns d e s, same_fire ms ns d e qs s)

  pub same_run : (ms : List M) (ns : List N) (ds : List D) (es : List E) → Pairwise (SameMoves ms ns) ds es → (qs : List ℕ) → run_from f ms qs ds ≡ run_from g ns qs es
  unfolding run_from
  same_run ms ns [] [] s qs = refl
  same_run ms ns [] (e ∷ es) s qs = absurd s
  same_run ms ns (d ∷ ds) [] s qs = absurd s
  same_run ms ns (d ∷ ds) (e ∷ es) (here, s) qs = go (product_step f ms qs d) refl (same_run ms ns ds es s)
    where
      go : (o : Option (List ℕ)) → product_step f ms qs d ≡ o → ((rs : List ℕ) → run_from f ms rs ds ≡ run_from g ns rs es) → run_from f ms qs (d ∷ ds) ≡ run_from g ns qs (e ∷ es)
      go none h ih =
          run_stops f ms qs d ds h ∙ ap (λ (k : ℕ). record { ran = 0; blocked = some k; places = qs }) (same_blocker ms ns d e qs here)
          ∙ sym (run_stops g ns qs e es (sym (same_step ms ns d e qs here) ∙ h))
      go (some rs) h ih = run_goes f ms qs rs d ds h ∙ ap one_more (ih rs) ∙ sym (run_goes g ns qs rs e es (sym (same_step ms ns d e qs here) ∙ h))

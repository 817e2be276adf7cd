-- Running together is the synchronous product, for any machines whose moves are the transitions that they have.
use Prim.Native.Nat.{ℕ, ◌<◌}
use mathlib.Core.Path.{◌≡◌, refl, ap, sym, ◌∙◌, subst}
use mathlib.Core.Logic.{◌⊎◌, inl, inr, ◌↔◌}
use mathlib.Core.Bool.{Bool, true, false, not, cond}
use mathlib.Core.List.{List, [], ◌∷◌, Memᴰ}
use mathlib.Core.Option.{Option, none, some, some-injective, none-ne-some, some-ne-none}
use lib.Dec.{T, eqb, eqb→eq, eqb_refl}
use lib.ListN.{length, take, get_or}
use Rattle.model.specs.Lists.{is_some}
use Rattle.model.specs.TransitionSystem.{runs, and_then}
use Rattle.model.specs.Product.{Move, move_from, both, Ran, one_more, in_alphabet, effective, fire, fire_all, product_step, run_from}
use Rattle.model.specs.Region.{HasEvent, Joint, done, joins, waits, Product, ProductWalk, stay, goes, Blocks}
use Rattle.model.proofs.Laws.{dec, eqb_of, cond_true, cond_false, exists_intro, exists_elim}
use Rattle.model.proofs.Positions.{at_mem, at_below}
use Rattle.model.proofs.Together.{Halts, run_stops, run_goes}

cond_some : (b : Bool) (x r : ℕ) → cond b (some x) none ≡ some r → T b × (x ≡ r)
cond_some true x r h = (tt, some-injective x r h)
cond_some false x r h = absurd (none-ne-some r h)

both_some : (o : Option ℕ) (l : Option (List ℕ)) (rs : List ℕ) → both o l ≡ some rs → (q : ℕ) × (qs : List ℕ) × (o ≡ some q) × (l ≡ some qs) × (q ∷ qs ≡ rs)
unfolding both
both_some none l rs h = absurd (none-ne-some rs h)
both_some (some q) none rs h = absurd (none-ne-some rs h)
both_some (some q) (some qs) rs h = (q, qs, refl, refl, some-injective (q ∷ qs) rs h)

effective_some : (b : Bool) (o : Option (List ℕ)) (rs : List ℕ) → cond b o none ≡ some rs → T b × (o ≡ some rs)
effective_some true o rs h = (tt, h)
effective_some false o rs h = absurd (none-ne-some rs h)

pub then_some : {A : Type 0} (o : Option A) (f : A → Option A) (c : A) → and_then o f ≡ some c → (a : A) × (o ≡ some a) × (f a ≡ some c)
unfolding and_then
then_some none f c h = absurd (none-ne-some c h)
then_some (some a) f c h = (a, refl, h)

-- a machine that blocks has the event and stands outside its pre-place
blocks_outside : (q : ℕ) (o : Option Move) → move_from q o ≡ none → (v : Move) × (o ≡ some v) × (¬ (q ≡ v.pre))
unfolding move_from
blocks_outside q none h = absurd (some-ne-none q h)
blocks_outside q (some v) h = (v, refl, λ e. some-ne-none v.post (sym (cond_true (eqb q v.pre) (some v.post) none (eqb_of q v.pre e)) ∙ h))

-- a machine that has the event and does not block stands in its pre-place
moves_inside : (q : ℕ) (v : Move) → T (is_some (move_from q (some v))) → q ≡ v.pre
unfolding move_from is_some
moves_inside q v t = go (dec (eqb q v.pre))
  where
    go : T (eqb q v.pre) ⊎ T (not (eqb q v.pre)) → q ≡ v.pre
    go (inl x) = eqb→eq q v.pre x
    go (inr x) = absurd (rw (cond_false (eqb q v.pre) (some v.post) none x) at t)

module _ {M E : Type 0} (moves : M → E → Option Move) (Arcs : M → ℕ → E → ℕ → Type 0) where
  -- the machine's moves are its transitions
  abbrev pub IsMoves : M → Type 0
  IsMoves m = (e : E) (v : Move) → (moves m e ≡ some v) ↔ Arcs m v.pre e v.post

  abbrev pub AllMoves : List M → Type 0
  AllMoves ms = (m : M) → Memᴰ m ms → IsMoves m

  -- ---- one machine: it takes a transition of the event, or has none and stays

  abbrev Moved : M → ℕ → E → ℕ → Type 0
  Moved m q e r = Arcs m q e r ⊎ ((¬ HasEvent Arcs m e) × (q ≡ r))

  module _ (m : M) (iff : IsMoves m) where
    no_arc : (e : E) → moves m e ≡ none → ¬ HasEvent Arcs m e
    no_arc e x h = none-ne-some _ (sym x ∙ (iff e (record { pre = h.0; post = h.1 })).1 h.2)

    pub alphabet_iff : (e : E) → T (in_alphabet moves e m) ↔ HasEvent Arcs m e
    unfolding in_alphabet is_some
    alphabet_iff e = (λ x. to (moves m e) refl x, λ h. rw ((iff e (record { pre = h.0; post = h.1 })).1 h.2) tt)
      where
        to : (o : Option Move) → moves m e ≡ o → T (is_some o) → HasEvent Arcs m e
        to none q x = absurd x
        to (some v) q x = (v.pre, v.post, (iff e v).0 q)

    one_moved : (q : ℕ) (e : E) (r : ℕ) → fire moves m e q ≡ some r → Moved m q e r
    unfolding fire move_from
    one_moved q e r h = go (moves m e) refl h
      where
        go : (o : Option Move) → moves m e ≡ o → move_from q o ≡ some r → Moved m q e r
        go none x y = inr (no_arc e x, some-injective q r y)
        go (some v) x y =
            let z = cond_some (eqb q v.pre) v.post r y in
            inl (subst (λ (k : ℕ). Arcs m k e r) (sym (eqb→eq q v.pre z.0)) (subst (λ (k : ℕ). Arcs m v.pre e k) z.1 ((iff e v).0 x)))

    moved_one : (q : ℕ) (e : E) (r : ℕ) → Moved m q e r → fire moves m e q ≡ some r
    unfolding fire move_from
    moved_one q e r (inl a) = rw ((iff e (record { pre = q; post = r })).1 a) (cond_true (eqb q q) (some r) none (eqb_refl q))
    moved_one q e r (inr n) = go (moves m e) refl
      where
        go : (o : Option Move) → moves m e ≡ o → move_from q o ≡ some r
        go none x = ap some n.1
        go (some v) x = absurd (n.0 (v.pre, v.post, (iff e v).0 x))

  -- ---- one event

  all_joint : (e : E) (ms : List M) → AllMoves ms → (qs rs : List ℕ) → fire_all moves e ms qs ≡ some rs → Joint Arcs e ms qs rs
  unfolding fire_all
  all_joint e [] f [] rs h = subst (Joint Arcs e [] []) (some-injective [] rs h) done
  all_joint e [] f (q ∷ qs) rs h = absurd (none-ne-some rs h)
  all_joint e (m ∷ ms) f [] rs h = absurd (none-ne-some rs h)
  all_joint e (m ∷ ms) f (q ∷ qs) rs h =
      let v = both_some (fire moves m e q) (fire_all moves e ms qs) rs h in
      subst (Joint Arcs e (m ∷ ms) (q ∷ qs)) v.4
      (go v.0 v.1 (one_moved m (f m (Memᴰ.head refl)) q e v.0 v.2) (all_joint e ms (λ n k. f n (Memᴰ.tail k)) qs v.1 v.3))
    where
      go : (r : ℕ) (us : List ℕ) → Moved m q e r → Joint Arcs e ms qs us → Joint Arcs e (m ∷ ms) (q ∷ qs) (r ∷ us)
      go r us (inl t) j = joins t j
      go r us (inr n) j = subst (λ (z : ℕ). Joint Arcs e (m ∷ ms) (q ∷ qs) (z ∷ us)) n.1 (waits n.0 j)

  joint_all : (e : E) (ms : List M) → AllMoves ms → (qs rs : List ℕ) → Joint Arcs e ms qs rs → fire_all moves e ms qs ≡ some rs
  unfolding fire_all both
  joint_all e ms f qs rs done = refl
  joint_all e ms f qs rs (joins {m} {q} {r} {ms = ns} {qs = vs} {rs = us} t j) =
      rw (moved_one m (f m (Memᴰ.head refl)) q e r (inl t), joint_all e ns (λ n k. f n (Memᴰ.tail k)) vs us j)
  joint_all e ms f qs rs (waits {m} {q} {ms = ns} {qs = vs} {rs = us} x j) =
      rw (moved_one m (f m (Memᴰ.head refl)) q e q (inr (x, refl)), joint_all e ns (λ n k. f n (Memᴰ.tail k)) vs us j)

  module _ (ms : List M) (f : AllMoves ms) where
    -- 000, Definition 4
    pub product_iff : (qs : List ℕ) (e : E) (rs : List ℕ) → (product_step moves ms qs e ≡ some rs) ↔ Product Arcs ms qs e rs
    unfolding product_step effective
    product_iff qs e rs = (to, from)
      where
        to : product_step moves ms qs e ≡ some rs → Product Arcs ms qs e rs
        to h =
            let y = effective_some (effective moves ms e) (fire_all moves e ms qs) rs h in
            let v = exists_elim (in_alphabet moves e) ms y.0 in
            record { machine = v.0; listed = v.1; shared = (alphabet_iff v.0 (f v.0 v.1) e).0 v.2; joint = all_joint e ms f qs rs y.1 }

        from : Product Arcs ms qs e rs → product_step moves ms qs e ≡ some rs
        from x =
            cond_true (effective moves ms e) (fire_all moves e ms qs) none
            (exists_intro (in_alphabet moves e) ms x.machine x.listed ((alphabet_iff x.machine (f x.machine x.listed) e).1 x.shared))
            ∙ joint_all e ms f qs rs x.joint

    -- lists of events
    pub walks_iff : (es : List E) (qs rs : List ℕ) → (runs (product_step moves ms) qs es ≡ some rs) ↔ ProductWalk Arcs ms qs es rs
    unfolding runs and_then
    walks_iff es qs rs = (to es qs rs, from es qs rs)
      where
        to : (es : List E) (qs rs : List ℕ) → runs (product_step moves ms) qs es ≡ some rs → ProductWalk Arcs ms qs es rs
        to [] qs rs h = subst (ProductWalk Arcs ms qs []) (some-injective qs rs h) stay
        to (e ∷ es) qs rs h =
            let v = then_some (product_step moves ms qs e) (λ us. runs (product_step moves ms) us es) rs h in
            goes ((product_iff qs e v.0).0 v.1) (to es v.0 rs v.2)

        from : (es : List E) (qs rs : List ℕ) → ProductWalk Arcs ms qs es rs → runs (product_step moves ms) qs es ≡ some rs
        from es qs rs stay = refl
        from es qs rs (goes {e} {es = ds} {rs = us} x y) = rw ((product_iff qs e us).1 x) (from ds us rs y)

    -- the machine that halts blocks, and no lower one; the places may be told with others after them
    module _ (qs ps : List ℕ) (told : (j : ℕ) → j < length ms → get_or ps j 0 ≡ get_or qs j 0) (e : E) (k : ℕ) (h : Halts moves e ms qs k) where
      pub halts_blocks : Blocks Arcs ms ps e k
      unfolding fire
      halts_blocks =
          let m = h.machine in
          let o = blocks_outside (get_or qs k 0) (moves m e) h.stops in
          record {
            machine = m;
            numbered = h.numbered;
            pre = o.0.pre;
            post = o.0.post;
            has = (f m (at_mem ms k m h.numbered) e o.0).0 o.1;
            elsewhere = λ q. o.2 (sym (told k (at_below ms k m h.numbered)) ∙ q);
          }

      pub lower_passes : (j : ℕ) → j < k → ¬ Blocks Arcs ms ps e j
      unfolding fire
      lower_passes j l x =
          let m = x.machine in
          let v : Move = record { pre = x.pre; post = x.post } in
          x.elsewhere
          (told j (at_below ms j m x.numbered)
          ∙ moves_inside (get_or qs j 0) v (rw ((f m (at_mem ms j m x.numbered) e v).1 x.has) at (h.lower j m l x.numbered)))

    -- ---- a list as `run_from` has it

    pub run_walks : (es : List E) (qs : List ℕ) → ProductWalk Arcs ms qs (take (run_from moves ms qs es).ran es) (run_from moves ms qs es).places
    unfolding run_from one_more
    run_walks [] qs = stay
    run_walks (e ∷ es) qs = go (product_step moves ms qs e) refl (run_walks es)
      where
        go : (o : Option (List ℕ)) → product_step moves ms qs e ≡ o → ((rs : List ℕ) → ProductWalk Arcs ms rs (take (run_from moves ms rs es).ran es) (run_from moves ms rs es).places)
            → ProductWalk Arcs ms qs (take (run_from moves ms qs (e ∷ es)).ran (e ∷ es)) (run_from moves ms qs (e ∷ es)).places
        go none h ih = subst (λ (r : Ran). ProductWalk Arcs ms qs (take r.ran (e ∷ es)) r.places) (sym (run_stops moves ms qs e es h)) stay
        go (some rs) h ih =
            subst (λ (r : Ran). ProductWalk Arcs ms qs (take r.ran (e ∷ es)) r.places) (sym (run_goes moves ms qs rs e es h)) (goes ((product_iff qs e rs).0 h) (ih rs))

    pub walk_runs : (es : List E) (qs us : List ℕ) → ProductWalk Arcs ms qs es us → run_from moves ms qs es ≡ record { ran = length es; blocked = none; places = us }
    unfolding run_from one_more
    walk_runs es qs us stay = refl
    walk_runs es qs us (goes {e} {es = ds} {rs = rs} x y) = run_goes moves ms qs rs e ds ((product_iff qs e rs).1 x) ∙ ap one_more (walk_runs ds rs us y)

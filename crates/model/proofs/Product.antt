-- The machines past 10 are those of the published theory, and running together is their synchronous product.
use Prim.Native.Nat.{ℕ, ◌<◌}
use mathlib.Core.Path.{◌≡◌, refl, sym, ◌∙◌, subst, subst₂}
use mathlib.Core.Logic.{◌↔◌}
use mathlib.Core.Bool.{not}
use mathlib.Core.List.{List, [], ◌∷◌, ◌++◌, Memᴰ, flatten}
use mathlib.Core.Option.{Option, none, some, some-injective, none-ne-some}
use lib.Dec.{T, eqb, ltb, ltb→lt, lt→ltb}
use Rattle.model.specs.Lists.{is_some, elem}
use Rattle.model.specs.TransitionSystem.{Transition, TransitionSystem, system_step, runs, and_then, system_runs, declared, transition_refusal, transitions_refusal, system_refusal}
use Rattle.model.specs.Machine.{Machine, Decomposition, place_of, places, move, product_runs, unplaced_state, nonuniform_event}
use Rattle.model.specs.Region.{Walk, stay, goes, IsTransitionSystem, IsRegion, InPlace, IsMachine, Arc, HasEvent, ProductWalk, MachinesRun}
use Rattle.model.specs.Demands.{Derived, OfSystem}
use Rattle.model.proofs.Laws.{not_T, contra, eqb_of, every_elim, every_intro, or_else_none, none_lowest}
use Rattle.model.proofs.Positions.{at_mem}
use Rattle.model.proofs.Bounds.{Within, Listed}
use Rattle.model.proofs.Places.{Good, elem_flatten}
use Rattle.model.proofs.Moves.{MoveView, moves, stays, move_view}
use Rattle.model.proofs.Simulate.{SystemView, fires, stuck, system_view}
use Rattle.model.proofs.Reach.{cond_none, deterministic, takes}
use Rattle.model.proofs.Passed.{Sound, sound_of}
use Rattle.model.proofs.Regions.{uniform_region, regions_iff}
use Rattle.model.proofs.Arcs.{on_iff, in_place, in_place_number, arc_of, arc_pre, arc_post, arc_iff}
use Rattle.model.proofs.Joint.{AllMoves, then_some, product_iff, walks_iff}
use Rattle.model.proofs.Standing.{stands_at, stands_only}

-- ---- the machines of a text: their moves are the arcs of the theory

pub moves_arcs : (p : TransitionSystem) (ms : Decomposition) → Within p → ((m : Machine) → Memᴰ m ms → Good p m) → ((m : Machine) → Memᴰ m ms → Listed p m) → AllMoves (move p) (Arc p) ms
moves_arcs p ms b g w m k e v = arc_iff p m (g m k) b (w m k) e v

-- ---- lists of events

pub some_of : {A : Type 0} (o : Option A) → T (is_some o) → (a : A) × (o ≡ some a)
unfolding is_some
some_of none t = absurd t
some_of (some a) t = (a, refl)

pub system_walk : (p : TransitionSystem) → transitions_refusal [] p.transitions ≡ none → (es : List ℕ) (s u : ℕ) → (runs (system_step p) s es ≡ some u) ↔ Walk p s es u
unfolding runs and_then
system_walk p n es s u = (to es s u, from es s u)
  where
    to : (es : List ℕ) (s u : ℕ) → runs (system_step p) s es ≡ some u → Walk p s es u
    to [] s u h = subst (Walk p s []) (some-injective s u h) stay
    to (e ∷ es) s u h =
        let v = then_some (system_step p s e) (λ x. runs (system_step p) x es) u h in
        go v.0 v.1 (to es v.0 u v.2) (system_view p s e)
      where
        go : (x : ℕ) → system_step p s e ≡ some x → Walk p x es u → SystemView p s e → Walk p s (e ∷ es) u
        go x q y (stuck z k) = absurd (none-ne-some x (sym z ∙ q))
        go x q y (fires t z k hs he) =
            subst₂ (λ (a d : ℕ). Walk p a (d ∷ es) u) hs he (goes t k (subst (λ (a : ℕ). Walk p a es u) (some-injective x t.target (sym q ∙ z)) y))

    from : (es : List ℕ) (s u : ℕ) → Walk p s es u → runs (system_step p) s es ≡ some u
    from es s u stay = refl
    from es s u (goes {es = ds} t k y) = rw (takes p n t k) (from ds t.target u y)

-- the machines run together from the places of the initial state, and these are the only initial places
pub machines_run : (p : TransitionSystem) (ms : Decomposition) → Within p → ((m : Machine) → Memᴰ m ms → Good p m) → ((m : Machine) → Memᴰ m ms → Listed p m)
    → (es qs : List ℕ) → (product_runs p ms es ≡ some qs) ↔ MachinesRun p ms es qs
unfolding product_runs
machines_run p ms b g w es qs = (
  λ h. record { start = places ms p.initial; stands = stands_at p ms g p.initial b.initial; walk = (walks_iff (move p) (Arc p) ms (moves_arcs p ms b g w) es (places ms p.initial) qs).0 h },
  λ x. (walks_iff (move p) (Arc p) ms (moves_arcs p ms b g w) es (places ms p.initial) qs).1
      (subst (λ (us : List ℕ). ProductWalk (Arc p) ms us es qs) (stands_only p ms g p.initial b.initial x.start x.stands) x.walk),
)

-- the declared lists are those of the system's events
pub of_system : (p : TransitionSystem) (es : List ℕ) → T (declared p.events es) ↔ OfSystem p es
unfolding declared
of_system p es = (
  λ t e k. ltb→lt e p.events (every_elim (λ d. ltb d p.events) es t e k),
  λ h. every_intro (λ d. ltb d p.events) es (λ e k. lt→ltb e p.events (h e k)),
)

-- ---- the machines past 10 are those of 000, section 2.4

pub good_machine : (p : TransitionSystem) (m : Machine) → Listed p m → Good p m → IsMachine p m
good_machine p m w g =
    record {
      one_place = λ s l. (place_of m s, in_place p m g s l);
      regions = λ r k. uniform_region p r (w r k) (λ e l. g.uniform e l r k);
    }

pub machine_places : (p : TransitionSystem) (m : Machine) → IsMachine p m → (unplaced_state p m ≡ none) × (nonuniform_event p m ≡ none)
unfolding unplaced_state
machine_places p m h = (
  none_lowest (λ s. not (elem s (flatten m.places))) p.states (λ s l. not_T (not (elem s (flatten m.places))) (λ x. contra (elem s (flatten m.places)) x (covered s l))),
  (regions_iff p m (λ r k. record { within = (h.regions r k).within; nonempty = (h.regions r k).nonempty })).1 h.regions,
)
  where
    covered : (s : ℕ) → s < p.states → T (elem s (flatten m.places))
    covered s l =
        let i = h.one_place s l in
        elem_flatten m.places i.1.place s (at_mem m.places i.0 i.1.place i.1.numbered) i.1.contains

pub derived : (p : TransitionSystem) (ms : Decomposition) → Within p → ((m : Machine) → Memᴰ m ms → Good p m) → ((m : Machine) → Memᴰ m ms → Listed p m) → Derived p ms
derived p ms b g w =
    record {
      machine = λ m i. good_machine p m (w m i) (g m i);
      on = λ m i. on_iff p m (g m i) b (w m i);
      one_way = λ m i e q r a t k he. (
        subst (λ (z : ℕ). InPlace m z t.source) (arc_pre p m (g m i) b (w m i) e q r a t k he) (in_place p m (g m i) t.source (b.source t k)),
        subst (λ (z : ℕ). InPlace m z t.target) (arc_post p m (g m i) b (w m i) e q r a t k he) (in_place p m (g m i) t.target (b.target t k)),
      );
      no_crossing = λ m i e n t k he q j. stay_in m i e n t k he q j (move_view p m e);
      starts = (places ms p.initial, stands_at p ms g p.initial b.initial);
      product = product_iff (move p) (Arc p) ms (moves_arcs p ms b g w);
      walks = machines_run p ms b g w;
    }
  where
    stay_in : (m : Machine) → Memᴰ m ms → (e : ℕ) → ¬ HasEvent (Arc p) m e → (t : Transition) → Memᴰ t p.transitions → t.event ≡ e
        → (q : ℕ) → InPlace m q t.source → MoveView p m e → InPlace m q t.target
    stay_in m i e n t k he q j (moves u x l hu c) = absurd (n (place_of m u.source, place_of m u.target, arc_of p m (g m i) b (w m i) e u l hu c))
    stay_in m i e n t k he q j (stays x s) =
        subst (λ (z : ℕ). InPlace m z t.target) (sym (s t k he) ∙ in_place_number p m (g m i) q t.source (b.source t k) j)
        (in_place p m (g m i) t.target (b.target t k))

-- ---- the transition system

pub all_states_region : (p : TransitionSystem) → Within p → IsRegion p (λ u. ltb u p.states)
all_states_region p b =
    record {
      within = λ s t. ltb→lt s p.states t;
      nonempty = (p.initial, lt→ltb p.initial p.states b.initial);
      each = λ e l.
          record {
            enter = λ x. absurd (contra (ltb x.transition.source p.states) x.holds.0 (lt→ltb x.transition.source p.states (b.source x.transition x.listed)));
            exit = λ x. absurd (contra (ltb x.transition.target p.states) x.holds.1 (lt→ltb x.transition.target p.states (b.target x.transition x.listed)));
          };
    }

-- 4: no transition leads from a state to itself
no_loop : (before ts : List Transition) → transitions_refusal before ts ≡ none → (t : Transition) → Memᴰ t ts → ¬ (t.source ≡ t.target)
unfolding transitions_refusal transition_refusal
no_loop before [] n t x3 h = elim x3 [ ]
no_loop before (y ∷ ts) n t (Memᴰ.head e) h =
    contra (eqb y.source y.target) (cond_none (eqb y.source y.target) _ _ (or_else_none _ _ n).0).0
    (eqb_of y.source y.target (subst (λ (v : Transition). v.source ≡ v.target) e h))
no_loop before (y ∷ ts) n t (Memᴰ.tail k) h = no_loop (before ++ (y ∷ [])) ts (or_else_none _ _ n).1 t k h

pub is_transition_system : (p : TransitionSystem) → Within p → system_refusal p ≡ none → IsTransitionSystem p
unfolding system_runs
is_transition_system p b n =
    record {
      initial = b.initial;
      within = λ t k. (b.source t k, b.event t k, b.target t k);
      no_self_loop = no_loop [] p.transitions v.forks;
      occurs = v.busy;
      reachable = λ s l. ((v.reach s l).list, (system_walk p v.forks (v.reach s l).list p.initial s).0 (v.reach s l).runs);
      deterministic = deterministic [] p.transitions v.forks;
    }
  where
    v : Sound p
    v = sound_of p b n

-- Tables whose single entries obey up*/down* drain: ours, or another vendor's with figures of their own.
use Prim.Native.Nat.{ℕ, suc, ◌+◌, ◌<◌, ◌%◌}
use mathlib.Core.Bool.{Bool, not}
use mathlib.Core.Path.{◌≡◌, sym, subst}
use mathlib.Core.Logic.{◌⊎◌, inl, inr, ◌≢◌}
use lib.Dec.{T, T_not, eqb, eqb→eq, ltb, ltb→lt, lt→ltb}
use Rattle.topology_rules.specs.Count.{both, bit}
use Rattle.topology_rules.specs.Net.{Net, WellFormed, target, in_port, leaving, live, delivers}
use Rattle.topology_rules.proofs.Tests.{decide, both_T, T_both, eq→eqb}
use Rattle.topology_rules.proofs.Bits.{some_bit}
use Rattle.topology_rules.proofs.Channels.{target_switch, leaving_is, cable_port}
use Rattle.planner_rules.specs.Tree.{up}
use Rattle.planner_rules.specs.Routes.{Arrival, may_cross, after}
use Rattle.planner_rules.specs.Table.{good, destination, arrival}
use Rattle.planner_rules.proofs.Addresses.{good_is}
use Rattle.planner_rules.proofs.Entries.{arrives}
use Rattle.rehearsal_rules.specs.Moves.{Tables, onward, allows}
use Rattle.rehearsal_rules.proofs.Tables.{Draining, Descends, Counts, Onward, Home}
use Rattle.rehearsal_rules.proofs.Ranks.{rank, rank_bounded, rank_rises}

-- tables as numbers, one set of ports for a switch, an incoming port and an address
abbrev pub holding : (ℕ → ℕ → ℕ → ℕ) → Tables
holding table s i a p = bit (table s i a) p

-- A figure for an arrival, a switch and a destination; `none` says that there is no way.
module _ (n : Net) (table : ℕ → ℕ → ℕ → ℕ) (figure : Arrival → ℕ → ℕ → ℕ) (none : ℕ) where
  abbrev pub beyond : ℕ → ℕ → ℕ
  beyond c t = figure (after (up n c)) (target n c) t

  -- the entry of switch s for a good address holds p
  abbrev pub Serves : ℕ → ℕ → ℕ → ℕ → Type 0
  Serves s i a p = (s < n.switches) × T (good n a) × T (holding table s i a p)

  -- crossing c is allowed for that arrival and leads to a smaller figure
  pub record Crosses (k : Arrival) (s t c : ℕ) : Type 0 where
    pub is_live : c < n.channels
    pub may : T (may_cross k (up n c))
    pub less : beyond c t < figure k s t
    pub reached : beyond c t < none

  pub record TableLaws : Type 0 where
    pub here : (s i a p : ℕ) → Serves s i a p → s ≡ destination n a → p ≡ a % 16
    pub on : (s i a p : ℕ) → Serves s i a p → s ≢ destination n a → Crosses (arrival n s i) s (destination n a) (leaving n s p)
    pub way_on : (ch a : ℕ) → ch < n.channels → T (good n a) → beyond ch (destination n a) < none → 0 < table (target n ch) (in_port n ch) a
    pub at_home : (k : Arrival) (t : ℕ) → figure k t t ≡ 0

  -- each crossing lowers the figure by one
  pub record Exact : Type 0 where
    pub by_one : (s i a p : ℕ) → Serves s i a p → s ≢ destination n a
        → figure (arrival n s i) s (destination n a) ≡ suc (beyond (leaving n s p) (destination n a))

  abbrev nonzero : ℕ → ℕ → Bool
  nonzero ch a = ltb 0 (table (target n ch) (in_port n ch) a)

  -- what a sound record may hold in ch
  abbrev pub Fits : ℕ → ℕ → Type 0
  Fits ch a = T (both (live n ch) (both (good n a) (nonzero ch a)))

  -- the figure of a packet held in ch
  abbrev pub left : ℕ → ℕ → ℕ
  left ch a = beyond ch (destination n a)

  fits_live : (ch a : ℕ) → Fits ch a → ch < n.channels
  fits_live ch a f = ltb→lt _ _ (both_T (live n ch) _ f).0

  fits_good : (ch a : ℕ) → Fits ch a → T (good n a)
  fits_good ch a f = (both_T (good n a) _ (both_T (live n ch) _ f).1).0

  fits_entry : (ch a : ℕ) → Fits ch a → 0 < table (target n ch) (in_port n ch) a
  fits_entry ch a f = ltb→lt _ _ (both_T (good n a) _ (both_T (live n ch) _ f).1).1

  module _ (w : WellFormed n) (e : TableLaws) where
    fits_if : (ch a : ℕ) → ch < n.channels → T (good n a) → left ch a < none → Fits ch a
    fits_if ch a l g h =
        T_both (live n ch) (both (good n a) (nonzero ch a)) (lt→ltb _ _ l) (T_both (good n a) (nonzero ch a) g (lt→ltb _ _ (e.way_on ch a l g h)))

    -- at the destination a packet leaves the net, elsewhere it crosses
    away : (s i a p : ℕ) → Serves s i a p → T (not (delivers n s p)) → s ≢ destination n a
    away s i a p h on at =
        T_not (delivers n s p) on (subst (λ q. T (delivers n s q)) (sym (e.here s i a p h at)) (subst (λ t. T (delivers n t (a % 16))) (sym at) (good_is n a h.1).port))

    at_end : (s i a p : ℕ) → Serves s i a p → T (delivers n s p) → s ≡ destination n a
    at_end s i a p h off = go (decide (eqb s (destination n a)))
      where
        go : T (eqb s (destination n a)) ⊎ (T (eqb s (destination n a)) → ⊥) → s ≡ destination n a
        go (inl t) = eqb→eq s (destination n a) t
        go (inr d) = absurd (T_not (delivers n s p) (cable_port n w s p (e.on s i a p h (λ x. d (eq→eqb s (destination n a) x))).is_live) off)

    serves : (ch a p : ℕ) → Fits ch a → T (allows n (holding table) ch a p) → Serves (target n ch) (in_port n ch) a p
    serves ch a p f h = (target_switch n w ch (fits_live ch a f), fits_good ch a f, h)

    home_at : (ch a p : ℕ) → Home n (holding table) Fits ch a p → target n ch ≡ destination n a
    home_at ch a p h = at_end _ _ a p (serves ch a p h.0 h.1) h.2

    crosses : (ch a p : ℕ) → Onward n (holding table) Fits ch a p → Crosses (after (up n ch)) (target n ch) (destination n a) (onward n ch p)
    crosses ch a p o =
        let s = serves ch a p o.0 o.1 in
        rw (arrives n w ch (fits_live ch a o.0)) at (e.on _ _ a p s (away _ _ a p s o.2))

    ends : (ch a p : ℕ) → Home n (holding table) Fits ch a p → left ch a ≡ 0
    ends ch a p h = rw (home_at ch a p h) (e.at_home _ _)

    pub descends : Descends n (holding table) Fits left
    descends = record { falls = λ ch a p o. (crosses ch a p o).less; at_home = ends }

    pub counts : Exact → Counts n (holding table) Fits left
    counts x = record {
      by_one = λ ch a p o.
          let s = serves ch a p o.0 o.1 in
          rw (arrives n w ch (fits_live ch a o.0)) at (x.by_one _ _ a p s (away _ _ a p s o.2));
      at_home = ends;
    }

    pub draining : Draining n (holding table) Fits (rank n)
    draining = record {
      live = fits_live;
      started = λ s a p sw g h l. fits_if _ a l g (e.on s 0 a p (sw, g, h) (away s 0 a p (sw, g, h) (cable_port n w s p l))).reached;
      allowed = λ ch a f. some_bit _ (fits_entry ch a f);
      kept = λ ch a p o. let c = crosses ch a p o in fits_if _ a c.is_live (fits_good ch a o.0) c.reached;
      joins = λ ch a p o. let c = crosses ch a p o in record { near = fits_live ch a o.0; far = c.is_live; meets = (leaving_is n _ p c.is_live).0; may = c.may };
      rises = λ b c j. rank_rises n w b c j.near j.far j.meets j.may;
      top = n.switches + n.switches;
      bounded = λ ch a f. rank_bounded n w ch (fits_live ch a f);
      home = λ ch a p h. let at = home_at ch a p h in (at, e.here _ _ a p (serves ch a p h.0 h.1) at);
    }

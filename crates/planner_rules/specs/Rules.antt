-- The rules as the papers say them, over routes written out as lists of channels: nothing is searched for. Levels and directions are those of Tree; the laws tie the searches to these rules.
use Rattle.std.specs.Prelude.{ℕ, suc, ◌+◌, ◌*◌, ◌≤◌, ◌<◌, not, ◌≡◌, ◌⊎◌, ◌≢◌, length, T}
use mathlib.Core.List.{List, [], ◌∷◌, ◌++◌, Memᴰ}
use Rattle.topology_rules.specs.Net.{Net, target, in_port, live, host}
use Rattle.planner_rules.specs.Tree.{level, up}
use Rattle.planner_rules.specs.Routes.{Arrival, free, bound, may_cross, after}

-- no number stands in the list twice
abbrev pub Once : List ℕ → Type 0
Once [] = Unit {0}
Once (ch ∷ r) = (Memᴰ ch r → ⊥) × Once r

module _ (n : Net) where
  -- the channels of r lead from s to t, whatever their direction
  abbrev pub Walk : ℕ → List ℕ → ℕ → Type 0
  Walk s [] t = s ≡ t
  Walk s (ch ∷ r) t = T (live n ch) × (n.source ch ≡ s) × Walk (target n ch) r t

  -- channel ch leads from s to a neighbour one level lower
  pub record Rises (s ch : ℕ) : Type 0 where
    pub is_live : ch < n.channels
    pub starts : n.source ch ≡ s
    pub lower : suc (level n (target n ch)) ≡ level n s

  -- ... to the one with the lowest UID, by the lowest port of s that leads there
  pub record Parent (s ch : ℕ) : Type 0 where
    pub rising : Rises s ch
    pub lowest : (b : ℕ) → Rises s b → n.uid (target n ch) ≤ n.uid (target n b)
    pub lowest_port : (b : ℕ) → Rises s b → target n b ≡ target n ch → n.out_port ch ≤ n.out_port b

  -- each crossing of r is up; each is down
  abbrev pub Ups : List ℕ → Type 0
  Ups [] = Unit {0}
  Ups (ch ∷ r) = T (up n ch) × Ups r

  abbrev pub Downs : List ℕ → Type 0
  Downs [] = Unit {0}
  Downs (ch ∷ r) = T (not (up n ch)) × Downs r

  -- a legal route: zero or more up crossings, then zero or more down crossings
  pub record UpThenDown (s : ℕ) (r : List ℕ) (t : ℕ) : Type 0 where
    pub climb : List ℕ
    pub descent : List ℕ
    pub is : r ≡ climb ++ descent
    pub ups : Ups climb
    pub downs : Downs descent
    pub leads : Walk s r t

  -- the same step by step: what a packet that arrived so may still cross from s to t
  abbrev pub Legal : Arrival → ℕ → List ℕ → ℕ → Type 0
  Legal k s [] t = s ≡ t
  Legal k s (ch ∷ r) t = T (live n ch) × (n.source ch ≡ s) × T (may_cross k (up n ch)) × Legal (after (up n ch)) (target n ch) r t

  -- ... and no legal route does so with fewer crossings
  abbrev pub Shortest : Arrival → ℕ → List ℕ → ℕ → Type 0
  Shortest k s r t = Legal k s r t × ((q : List ℕ) → Legal k s q t → length r ≤ length q)

  -- channel c leaves switch s by port p
  pub record Leaves (s p c : ℕ) : Type 0 where
    pub is_live : T (live n c)
    pub starts : n.source c ≡ s
    pub by_port : n.out_port c ≡ p

  -- port p of s is its own processor or has a host
  abbrev pub Delivers : ℕ → ℕ → Type 0
  Delivers s p = (p ≡ 0) ⊎ T (host n s p)

  -- port i of s is 0, or has a host or a cable
  abbrev pub Attached : ℕ → ℕ → Type 0
  Attached s i = Delivers s i ⊎ ((c : ℕ) × Leaves s i c)

  -- how packets that come in by port i of s arrive
  pub data Arrives (s i : ℕ) : Arrival → Type 0 where
    from_inside : Delivers s i → Arrives s i free
    by_up : (ch : ℕ) → T (live n ch) → target n ch ≡ s → in_port n ch ≡ i → T (up n ch) → Arrives s i free
    by_down : (ch : ℕ) → T (live n ch) → target n ch ≡ s → in_port n ch ≡ i → T (not (up n ch)) → Arrives s i bound

  -- address a is port q of switch t, which is 0 or a host port of it
  pub record Addresses (a t q : ℕ) : Type 0 where
    pub a_switch : t < n.switches
    pub a_port : q < 16
    pub spelled : a ≡ 16 * n.number t + q
    pub served : Delivers t q

  -- a good address
  abbrev pub Good : ℕ → Type 0
  Good a = (t : ℕ) × (q : ℕ) × Addresses a t q

  -- The entry of s for what comes in by port i with address a holds port p: at the destination the addressed port alone,
  -- elsewhere a port by which a shortest legal remainder for that arrival begins.
  pub data Holds (s i a p : ℕ) : Type 0 where
    here : Attached s i → Addresses a s p → Holds s i a p
    onward : {t q c : ℕ} {k : Arrival} (r : List ℕ) → Attached s i → Addresses a t q → s ≢ t → Arrives s i k → Leaves s p c → Shortest k s (c ∷ r) t → Holds s i a p

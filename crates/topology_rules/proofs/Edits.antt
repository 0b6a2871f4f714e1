-- What is left of an accepted description, where both ends of each cable that is kept are kept: it is accepted, and holds exactly what was kept.
use mathlib.Core.Path.{◌≡◌, refl, sym, ap, ◌∙◌}
use mathlib.Core.Logic.{inl, inr, ◌↔◌}
use mathlib.Core.Bool.{Bool}
use mathlib.Core.List.{List}
use Prim.Native.Nat.{ℕ, ◌+◌, ◌*◌, ◌/◌, ◌%◌, ◌<◌}
use native.Mathlib.Omega.{arith}
use lib.ListN.{get_or, length}
use lib.Dec.{T}
use Rattle.topology_rules.specs.Count.{those}
use Rattle.topology_rules.specs.Format.{switch_count, cable_count, end_switch, end_port, EndOf}
use Rattle.topology_rules.specs.Accepted.{Accepted, Switch, End, Cable}
use Rattle.topology_rules.specs.Edit.{part}
use Rattle.topology_rules.specs.EditRules.{Keeps}
use Rattle.topology_rules.proofs.Tests.{split}
use Rattle.topology_rules.proofs.Verdicts.{end_at}
use Rattle.topology_rules.proofs.Records.{Listed, Found, those_listed, those_lists}
use Rattle.topology_rules.proofs.Parts.{was, part_length, part_switches, part_cables, part_uid, part_hosts, part_end, part_cable}

pub end_side : (x b : ℕ) → b < 2 → EndOf x (2 * x + b)
end_side x b l = elim (split b 1) [ inl z ↦ inl (omega arith) | inr z ↦ inr (omega arith) ]

module _ (d : List ℕ) (a : Accepted d) where
  pub end_of : (x b : ℕ) → x < cable_count d → b < 2 → End d x (2 * x + b)
  end_of x b h l = end_at d a h (end_side x b l)

  -- switches and cables that may be kept together: both ends of each cable are kept, and moved to where they stand
  module _ (f g : ℕ → Bool) (new_position : ℕ → ℕ) where
    abbrev ss : List ℕ
    ss = those (switch_count d) 0 f

    abbrev cs : List ℕ
    cs = those (cable_count d) 0 g

    abbrev new : List ℕ
    new = part d ss cs new_position

    module _ (stands : (x b : ℕ) → x < cable_count d → b < 2 → T (g x) → Found (end_switch d (2 * x + b)) ss (new_position (end_switch d (2 * x + b)))) where
      sl : Listed f (switch_count d) 0 ss
      sl = those_listed f (switch_count d) 0

      cl : Listed g (cable_count d) 0 cs
      cl = those_listed g (cable_count d) 0

      old : (j : ℕ) → j < length ss → get_or ss j 0 < switch_count d
      old j h = omega (arith, sl.high j h)

      switch : (j : ℕ) → j < length ss → Switch new j
      switch j h =
          let s = a.switches (get_or ss j 0) (old j h) in
          record {
            uid_some = λ e. s.uid_some (sym (part_uid d ss cs new_position j h) ∙ e);
            uid_new = λ i l e. s.uid_new (get_or ss i 0) (sl.ascending i j l h) (sym (part_uid d ss cs new_position i (omega arith)) ∙ e ∙ part_uid d ss cs new_position j h);
            hosts_low = rw (part_hosts d ss cs new_position j h) s.hosts_low;
            hosts_high = rw (part_hosts d ss cs new_position j h) s.hosts_high;
          }

      cable_old : (e : ℕ) → e < 2 * length cs → get_or cs (e / 2) 0 < cable_count d
      cable_old e h = omega (arith, cl.high (e / 2) (omega arith))

      found : (e : ℕ) → e < 2 * length cs → Found (end_switch d (was d ss cs new_position e)) ss (new_position (end_switch d (was d ss cs new_position e)))
      found e h = stands (get_or cs (e / 2) 0) (e % 2) (cable_old e h) (omega arith) (cl.passes (e / 2) (omega arith))

      -- two ends at one switch were at one switch
      same_switch : (e h : ℕ) → e < 2 * length cs → h < 2 * length cs → end_switch new e ≡ end_switch new h
          → end_switch d (was d ss cs new_position e) ≡ end_switch d (was d ss cs new_position h)
      same_switch e h l m q =
          let p : new_position (end_switch d (was d ss cs new_position e)) ≡ new_position (end_switch d (was d ss cs new_position h)) =
          sym (part_end d ss cs new_position e l).0 ∙ q ∙ (part_end d ss cs new_position h m).0 in
          sym (found e l).1 ∙ ap (λ (k : ℕ). get_or ss k 0) p ∙ (found h m).1

      end : (c e : ℕ) → e / 2 ≡ c → e < 2 * length cs → End new c e
      end c e same h =
          let x = end_of (get_or cs (e / 2) 0) (e % 2) (cable_old e h) (omega arith) in
          let q = part_end d ss cs new_position e h in
          let k = found e h in
          record {
            switch_there = rw (q.0, part_switches d ss cs new_position) k.0;
            port_low = rw q.1 x.port_low;
            port_high = rw q.1 x.port_high;
            no_host = rw (q.0, q.1, part_hosts d ss cs new_position (new_position (end_switch d (was d ss cs new_position e))) k.0, k.1) x.no_host;
            unused = λ f l s p.
                let m : f < 2 * length cs = omega arith in
                x.unused (was d ss cs new_position f) (omega (arith, cl.ascending (f / 2) (e / 2) (omega arith) (omega arith)))
                (same_switch f e m h s) (sym (part_end d ss cs new_position f m).1 ∙ p ∙ q.1);
          }

      cable : (c : ℕ) → c < length cs → Cable new c
      cable c h = record {
        first = end c (2 * c) (omega arith) (omega arith);
        second = end c (2 * c + 1) (omega arith) (omega arith);
        apart = λ e.
            let s = same_switch (2 * c) (2 * c + 1) (omega arith) (omega arith) e in
            let x : was d ss cs new_position (2 * c) ≡ 2 * get_or cs c 0 = even c in
            let y : was d ss cs new_position (2 * c + 1) ≡ 2 * get_or cs c 0 + 1 = odd c in
            (a.cables (get_or cs c 0) (omega (arith, cl.high c h))).apart (sym (ap (end_switch d) x) ∙ s ∙ ap (end_switch d) y);
      }
        where
          even : (c : ℕ) → was d ss cs new_position (2 * c) ≡ 2 * get_or cs c 0
          even c = let h : 2 * c / 2 ≡ c = omega arith in rw h (omega arith)

          odd : (c : ℕ) → was d ss cs new_position (2 * c + 1) ≡ 2 * get_or cs c 0 + 1
          odd c = let h : (2 * c + 1) / 2 ≡ c = omega arith in rw h (omega arith)

      pub part_accepted : 0 < length ss → Accepted new
      unfolding part
      part_accepted some =
          let s = part_switches d ss cs new_position in
          let c = part_cables d ss cs new_position in
          record {
            marked = record { letter_u = refl; letter_d = refl; letter_r = refl };
            version = refl;
            some_switch = omega (arith, s, some);
            few_switches = omega (arith, s, sl.few, a.few_switches);
            few_cables = omega (arith, c, cl.few, a.few_cables);
            size = omega (arith, s, c, part_length d ss cs new_position);
            switches = λ j h. switch j (omega (arith, s));
            cables = λ j h. cable j (omega (arith, c));
          }

      -- it keeps exactly the switches and cables that were chosen
      pub part_keeps : (Stays Kept : ℕ → Type 0) → ((j : ℕ) → T (f j) ↔ Stays j) → ((c : ℕ) → T (g c) ↔ Kept c) → Keeps d new Stays Kept
      part_keeps Stays Kept p q = record {
        switches = ss;
        cables = cs;
        kept_switches = those_lists Stays f (switch_count d) p;
        kept_cables = those_lists Kept g (cable_count d) q;
        switch_total = part_switches d ss cs new_position;
        cable_total = part_cables d ss cs new_position;
        size = part_length d ss cs new_position;
        uids = part_uid d ss cs new_position;
        hosts = part_hosts d ss cs new_position;
        end_there = λ c b h l. rw (at c b h l).0 (there c b h l).0;
        end_switch_kept = λ c b h l. ap (λ (k : ℕ). get_or ss k 0) (at c b h l).0 ∙ (there c b h l).1;
        end_port_kept = λ c b h l. (at c b h l).1;
      }
        where
          at : (c b : ℕ) → c < length cs → b < 2
              → (end_switch new (2 * c + b) ≡ new_position (end_switch d (2 * get_or cs c 0 + b))) × (end_port new (2 * c + b) ≡ end_port d (2 * get_or cs c 0 + b))
          at c b h l = part_cable d ss cs new_position (get_or cs c 0) c b (h, refl) l

          there : (c b : ℕ) → c < length cs → b < 2 → Found (end_switch d (2 * get_or cs c 0 + b)) ss (new_position (end_switch d (2 * get_or cs c 0 + b)))
          there c b h l = stands (get_or cs c 0) b (omega (arith, cl.high c h)) l (cl.passes c h)

-- A machine that follows another step by step drains as it does.
use Prim.Native.Nat.{ℕ}
use mathlib.Core.List.{List, [], ◌∷◌}
use mathlib.Core.Path.{◌≡◌, refl, sym, ◌∙◌, ap, ap₂, subst}
use mathlib.Core.Logic.{◌↔◌}
use lib.Dec.{T}
use Rattle.topology_rules.specs.Net.{Net}
use Rattle.rehearsal_rules.specs.Machine.{Machine, last, answers, every}
use Rattle.rehearsal_rules.specs.Packets.{Cell}
use Rattle.rehearsal_rules.specs.Answers.{Order, Answer, advances}
use Rattle.rehearsal_rules.specs.Left.{Still}
use Rattle.rehearsal_rules.specs.Follow.{Whereabouts, in_channel, followed, Entered, now, later}
use Rattle.rehearsal_rules.specs.Drains.{Drained, Drains}

module _ {S U : Type 0} (m : Machine S Order Answer) (k : Machine U Order Answer) (f : S → U) (Sound : S → Type 0) where
  -- from a sound state m answers as k does from its image, and goes on to a sound state over k's next
  pub record Simulates : Type 0 where
    pub keeps : (s : S) (o : Order) → Sound s → Sound (m.next s o)
    pub same_answer : (s : S) (o : Order) → Sound s → m.answer s o ≡ k.answer (f s) o
    pub same_next : (s : S) (o : Order) → Sound s → f (m.next s o) ≡ k.next (f s) o

  module _ (sim : Simulates) where
    pub sound_run : (s : S) (os : List Order) → Sound s → Sound (last m s os)
    unfolding last
    sound_run s [] h = h
    sound_run s (o ∷ os) h = sound_run (m.next s o) os (sim.keeps s o h)

    pub same_last : (s : S) (os : List Order) → Sound s → f (last m s os) ≡ last k (f s) os
    unfolding last
    same_last s [] h = refl
    same_last s (o ∷ os) h = rw (← (sim.same_next s o h)) (same_last (m.next s o) os (sim.keeps s o h))

    pub same_answers : (s : S) (os : List Order) → Sound s → answers m s os ≡ answers k (f s) os
    unfolding answers
    same_answers s [] h = refl
    same_answers s (o ∷ os) h = rw (← (sim.same_next s o h)) (ap₂ ◌∷◌ (sim.same_answer s o h) (same_answers (m.next s o) os (sim.keeps s o h)))

    pub still_there : (s : S) → Sound s → Still m s → Still k (f s)
    still_there s h still ch p = rw (sim.same_answer s _ h) at (still ch p)

    pub still_here : (s : S) → Sound s → Still k (f s) → Still m s
    still_here s h still ch p = rw (sim.same_answer s _ h) (still ch p)

    module _ (n : Net) where
      pub entered_there : {s : S} {os : List Order} {a : ℕ} {w : Whereabouts} → Sound s → Entered n m s os a w → Entered n k (f s) os a w
      entered_there {s} h (now {os = os} {k = j} {a = a} {p = p} e) =
          let o = Order.placing j a p in
          rw (same_answers (m.next s o) os (sim.keeps s o h), sim.same_next s o h) (now (sym (sim.same_answer s o h) ∙ e))
      entered_there {s} h (later {o = o} e) = later (rw (sim.same_next s o h) at (entered_there (sim.keeps s o h) e))

      pub entered_here : {u : U} {os : List Order} {a : ℕ} {w : Whereabouts} → Entered n k u os a w → (s : S) → Sound s → u ≡ f s → Entered n m s os a w
      entered_here {u} (now {os = os} {k = j} {a = a} {p = p} {c = c} e) s h at =
          let o = Order.placing j a p in
          let image : f (m.next s o) ≡ k.next u o = sim.same_next s o h ∙ ap (λ v. k.next v o) (sym at) in
          let same = same_answers (m.next s o) os (sim.keeps s o h) ∙ ap (λ v. answers k v os) image in
          subst (λ xs. Entered n m s (o ∷ os) a (followed n (in_channel c) os xs)) same (now (sim.same_answer s o h ∙ ap (λ v. k.answer v o) (sym at) ∙ e))
      entered_here {u} (later {o = o} e) s h at =
          later (entered_here e (m.next s o) (sim.keeps s o h) (ap (λ v. k.next v o) at ∙ sym (sim.same_next s o h)))

      module _ (cells : U → List Cell) (There : U → Type 0) (over : (s : S) → Sound s → There (f s)) (d : Drains n k cells There) where
        done : (s : S) (os : List Order) → Sound s → T (every advances os) → Still m (last m s os) → Drained n m (λ x. cells (f x)) Sound s os
        done s os h adv still =
            let v = d.drained (f s) os (over s h) adv (rw (same_last s os h) at (still_there (last m s os) (sound_run s os h) still)) in
            record {
              exactly = rw (same_answers s os h) v.exactly;
              once_each = rw (same_answers s os h) v.once_each;
              empty = rw (same_last s os h) v.empty;
              each_home = λ ch full. rw (same_answers s os h) (v.each_home ch full);
            }

        pub drains_too : Drains n m (λ x. cells (f x)) Sound
        drains_too = record {
          stays_sound = sound_run;
          goes_on = λ s h ch full. let (c, p, t) = d.goes_on (f s) (over s h) ch full in (c, p, rw (sim.same_answer s _ h) t);
          conserves = λ s os h. rw (same_answers s os h, same_last s os h) (d.conserves (f s) os (over s h));
          counts = λ s os h adv. rw (same_answers s os h, same_last s os h) (d.counts (f s) os (over s h) adv);
          ends = λ s h.
              let (os, adv, still) = d.ends (f s) (over s h) in
              (os, adv, still_here (last m s os) (sound_run s os h) (rw (same_last s os h) still));
          nothing_is_still = λ s h e. still_here s h (d.nothing_is_still (f s) (over s h) e);
          drained = done;
          apart = λ s os h c b fc fb ne. rw (same_answers s os h) (d.apart (f s) os (over s h) c b fc fb ne);
          delivery = λ s h e os ch p q x.
              let (a, en, to, port) = d.delivery (f s) (over s h) e os ch p q (rw (sim.same_answer (last m s os) _ (sound_run s os h), same_last s os h) at x) in
              (a, entered_here en s h refl, to, port);
          placed_there = λ s h e os a c en. rw (same_last s os h) (d.placed_there (f s) (over s h) e os a c (entered_there h en));
          placed_home = λ s h e os x a w en. d.placed_home (f s) (over s h) e os (rw (same_last s os h) at x) a w (entered_there h en);
        }

-- what is sound may be said in other words
pub drains_under : (n : Net) {S : Type 0} (m : Machine S Order Answer) (cells : S → List Cell) (Sound Other : S → Type 0) → ((s : S) → Sound s ↔ Other s)
    → Drains n m cells Sound → Drains n m cells Other
unfolding last
drains_under n {S} m cells Sound Other same d = drains_too m m (λ s. s) Other itself n cells Sound (λ s. (same s).1) d
  where
    itself : Simulates m m (λ s. s) Other
    itself = record {
      keeps = λ s o h. (same (m.next s o)).0 (d.stays_sound s (o ∷ []) ((same s).1 h));
      same_answer = λ s o h. refl;
      same_next = λ s o h. refl;
    }

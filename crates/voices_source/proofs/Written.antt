-- The plain player by place is the plain player as written.
use Prim.Native.Nat.{ℕ, suc, ◌≤◌}
use native.Mathlib.Omega.{arith}
use mathlib.Core.Path.{◌≡◌, refl, sym, ap, ◌∙◌, subst}
use mathlib.Core.Bool.{true, false, not, ◌&&◌, cond, or-true, and-false, true≢false}
use mathlib.Core.List.{List, [], ◌∷◌, ◌++◌, map}
use lib.ListN.{length, get_or}
use lib.Dec.{eqb, leb}
use lib.Ieee.{Float}
use borrow.Author.Tests.{eqb-true, eqb-false, eq-eqb, ne_eqb}
use Rattle.player_model.proofs.Lists.{by-test, either_way}
use Rattle.base_laws.proofs.Choice.{both_true}
use Rattle.orchestra_syntax.specs.Tree.{Instrument, imports_kind}
use Rattle.orchestra_syntax.specs.Names.{Named, names_of, symbols, has, apart, distinct, obeys_name_rules, all_obey_name_rules, title_of, name_rules, known, named, named_by}
use Rattle.base_float32.specs.Builtins.{zero_f}
use Rattle.orchestra_semantics.specs.Meaning.{instrument_of, silent, Memory, imports_in, control, birth, cycle}
use Rattle.voices_resolved.specs.Tree.{tree_voices}
use Rattle.voices_resolved.specs.Claims.{imported}
use Rattle.voices_resolved.proofs.Lines.{control-names}
use Rattle.orchestra_semantics.specs.inside.Translation.{Stands}
use Rattle.orchestra_semantics.proofs.Translation.{birth-agrees, cycle-agrees}
use Rattle.orchestra_syntax.proofs.Places.{kept, index, place_is}
use Rattle.voices_source.specs.Voices.{written_voices, Fits}
use Rattle.voices_source.specs.inside.Translation.{HeldAs, EveryPiece, EveryPast}
use Rattle.voices_source.proofs.Related.{Related, blocks-related, answers-related, holds-related, past-related, past-block-related}

-- ---- each name once

has_left : (x n : ℕ) (ns : List ℕ) → has x ns ≡ true → has x (ns ++ n ∷ []) ≡ true
unfolding has
has_left x n [] e = absurd (true≢false (sym e))
has_left x n (m ∷ ns) e = by-test (eqb m x) (λ q. rw q) (λ q. rw q (has_left x n ns (rw q at e)))

has_last : (n : ℕ) (ns : List ℕ) → has n (ns ++ n ∷ []) ≡ true
unfolding has
has_last n [] = rw (eq-eqb n n refl)
has_last n (m ∷ ns) = rw (has_last n ns, or-true)

-- a name among those before comes no more
no_more : (before ns : List ℕ) (x : ℕ) → apart before ns ≡ true → has x before ≡ true → has x ns ≡ false
unfolding apart has
no_more before [] x e h = refl
no_more before (n ∷ ns) x e h =
    let p = both_true (not (has n before)) (apart (before ++ n ∷ []) ns) e in
    by-test (eqb n x) (λ q. cc (p.0, eqb-true n x q)) (λ q. rw q (no_more (before ++ n ∷ []) ns x p.1 (has_left x n before h)))

no-import : (ms : List Named) (x : ℕ) → has x (symbols ms) ≡ false → imports_in ms x ≡ false
unfolding imports_in has
no-import [] x e = refl
no-import (m ∷ ms) x e = by-test (eqb m.name x) (λ q. cc) (λ q. rw q (no-import ms x (rw q at e)))

-- ---- step 4

-- the value of a declared name after a control line
imported-at : (before : List ℕ) (ms : List Named) (vs : List Float) (n x : ℕ) (y : Float) → apart before (symbols ms) ≡ true → length ms ≤ length vs → has n (symbols ms) ≡ true
    → get_or (imported x y ms vs) (index n ms) zero_f ≡ cond (imports_in ms x && eqb n x) y (get_or vs (index n ms) zero_f)
unfolding imported index imports_in apart has
imported-at before [] vs n x y e l h = absurd (true≢false (sym h))
imported-at before (m ∷ ms) [] n x y e l h = absurd (omega arith)
imported-at before (m ∷ ms) (v ∷ vs) n x y e l h =
    let p = both_true (not (has m.name before)) (apart (before ++ m.name ∷ []) (symbols ms)) e in
    let rest = imported-at (before ++ m.name ∷ []) ms vs n x y p.1 (omega arith) in
    let none = no-import ms m.name (no_more (before ++ m.name ∷ []) (symbols ms) m.name p.1 (has_last m.name before)) in
    by-test (eqb m.name n)
    (λ b. by-test (eqb n x)
    (λ c. let same = eqb-true m.name n b ∙ eqb-true n x c in
    let d = eq-eqb m.name x same in
    let i = rw same at none in by-test (eqb m.kind imports_kind) (λ k. rw (b, c, d, i, k)) (λ k. rw (b, c, d, i, k)))
    (λ c. let d = ne_eqb m.name x (λ q. eqb-false n x c (sym (eqb-true m.name n b) ∙ q)) in
    rw (b, c, d, and-false (eqb m.kind imports_kind), and-false (imports_in ms x))))
    (λ b. by-test (eqb m.name x)
    (λ d. let c = ne_eqb n x (λ q. eqb-false m.name n b (eqb-true m.name x d ∙ sym q)) in rw (b, c, and-false) (rw (c, and-false) at (rest (rw b at h))))
    (λ d. rw (b, d) (rest (rw b at h))))

length-imported : (x : ℕ) (y : Float) (ms : List Named) (vs : List Float) → length (imported x y ms vs) ≡ length vs
unfolding imported
length-imported x y [] vs = refl
length-imported x y (m ∷ ms) [] = refl
length-imported x y (m ∷ ms) (v ∷ vs) = ap suc (length-imported x y ms vs)

control-stands : (x : Instrument) (vs : List Float) (m : Memory) (n : ℕ) (y : Float) → obeys_name_rules x ≡ true → Stands (names_of x) vs m.values
    → Stands (names_of x) (imported n y (names_of x) vs) (control x n y m).values
unfolding control
control-stands x vs m n y e s =
    record {
      size = length-imported n y (names_of x) vs ∙ s.size;
      holds = λ p h.
          let l = (kept x e).few in
          let i = place_is p (names_of x) l h in
          ap (λ (q : ℕ). get_or (imported n y (names_of x) vs) q zero_f) i
          ∙ imported-at [] (names_of x) vs p n y (kept x e).once (omega (arith, s.size)) h
          ∙ ap (λ (z : Float). cond (imports_in (names_of x) n && eqb p n) y z) (ap (λ (q : ℕ). get_or vs q zero_f) (sym i) ∙ s.holds p h)
          ∙ by-test (imports_in (names_of x) n) (λ b. rw b) (λ b. rw b);
    }

-- ---- the voices

each-found : (is : List Instrument) (name : ℕ) → all_obey_name_rules is ≡ true → obeys_name_rules (instrument_of is name) ≡ true
unfolding all_obey_name_rules instrument_of silent known named named_by apart
each-found [] name e = refl
each-found (x ∷ is) name e =
    let p = both_true (obeys_name_rules x) (all_obey_name_rules is) e in
    either_way (λ (i : Instrument). obeys_name_rules i ≡ true) (eqb x.name name) p.0 (each-found is name p.1)

born : (is : List Instrument) → all_obey_name_rules is ≡ true → (name : ℕ) (xs : List Float)
    → Stands (names_of (instrument_of is name)) ((tree_voices is).birth name xs).values (birth (instrument_of is name) xs).memory.values
unfolding tree_voices
born is e name xs = birth-agrees (instrument_of is name) xs (each-found is name e)

related : (is : List Instrument) → all_obey_name_rules is ≡ true → Related (HeldAs is) (Fits is) (tree_voices is) (written_voices is)
unfolding tree_voices written_voices
related is e =
    record {
      birth = λ name xs. record { instrument = refl; values = born is e name xs };
      control = λ l label x y s t o h.
          let k = control-names is x y s o h.values.size in
          record {
            instrument = h.instrument;
            values =
                subst (λ (vs : List Float). Stands (names_of (instrument_of is s.instrument)) vs (control (instrument_of is t.instrument) x y t.memory).values) (sym k)
                (subst (λ (j : ℕ). Stands (names_of (instrument_of is s.instrument)) (imported x y (names_of (instrument_of is s.instrument)) s.values) (control (instrument_of is j) x y t.memory).values) h.instrument
                (control-stands (instrument_of is s.instrument) s.values t.memory x y (each-found is s.instrument e) h.values));
          };
      run = λ s t mix h.
          let c = cycle-agrees (instrument_of is s.instrument) s.values mix t.memory (each-found is s.instrument e) h.values in
          record {
            instrument = h.instrument;
            values = subst (λ (j : ℕ). Stands (names_of (instrument_of is s.instrument)) ((tree_voices is).run s mix).state.values (cycle (instrument_of is j) t.memory mix).memory.values) h.instrument c.0;
          };
      mix = λ s t mix h.
          let c = cycle-agrees (instrument_of is s.instrument) s.values mix t.memory (each-found is s.instrument e) h.values in
          c.1 ∙ ap (λ (j : ℕ). (cycle (instrument_of is j) t.memory mix).mix) h.instrument;
    }

pub named-related : (is : List Instrument) → name_rules is ≡ true → Related (HeldAs is) (Fits is) (tree_voices is) (written_voices is)
named-related is e =
    related is (both_true (distinct (map title_of is)) (all_obey_name_rules is) (both_true (leb (length is) 8) (distinct (map title_of is) && all_obey_name_rules is) e).1).1

pub every-piece : EveryPiece
every-piece is start settings ls n e o =
    let r = named-related is e in
    let h = holds-related (HeldAs is) (Fits is) r start settings ls n o in
    record {
      answers = answers-related (HeldAs is) (Fits is) r start settings ls n o;
      blocks = blocks-related (HeldAs is) (Fits is) r start settings ls n o;
      position = h.position;
      missed = λ i. (h.counts i).missed;
    }

pub every-past : EveryPast
every-past P is chosen k ms e o =
    let r = named-related is e in
    let p = past-related (HeldAs is) (Fits is) r chosen k ms o in
    record { holds = p.0; reached = p.1; set = p.2; block = λ s. past-block-related (HeldAs is) (Fits is) r chosen k s ms o }

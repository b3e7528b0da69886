-- Every line taken fits, so every cycle and condition 3 are those of the orchestra as it is written.
use mathlib.Core.Path.{◌≡◌, refl, ap, ◌∙◌, subst⁻¹}
use mathlib.Core.Bool.{cond}
use mathlib.Core.List.{List, [], ◌∷◌, ◌++◌, append-nil}
use Prim.Native.Nat.{ℕ, suc, ◌≤◌}
use native.Mathlib.Omega.{arith}
use lib.ListN.{length, length-take}
use lib.Dec.{eqb}
use borrow.Author.Tests.{eq-eqb, ne_eqb}
use Rattle.score_line.specs.declared.Event.{Event}
use Rattle.score_line.specs.declared.Event.TheVariants.{Instr, Control, End, Tempo}
use Rattle.score_line.specs.declared.Line.{Line}
use Rattle.orchestra_syntax.specs.Tree.{Instrument}
use Rattle.orchestra_semantics.specs.Meaning.{instrument_of}
use Rattle.voices_resolved.specs.Tree.{tree_voices}
use Rattle.voices_source.specs.Alike.{NotesAs, StateAs}
use Rattle.voices_source.specs.Voices.{written_voices}
use Rattle.voices_source.specs.inside.Translation.{HeldAs, PlaysAsWritten, PastAsWritten}
use Rattle.voices_source.specs.Voices as written
use Rattle.voices_source.proofs.Written.{every-piece, every-past}
use Rattle.voices_compiled.specs.Voices as by_place
use Rattle.base_answer.specs.Numbers.{number_of}
use Rattle.score_bursts.specs.Bursts.{units_in}
use Rattle.score_bursts.specs.inside.Reading.{burst_of}
use Rattle.player_model.specs.Lists.{All, each}
use lib.Ieee.{Float}
use Rattle.settings_records.specs.declared.InUse.{InUse}
use Rattle.player_model.specs.Set.{in_force, starting_tempo}
use Rattle.player_model.specs.Cycle.{Note}
use Rattle.player_model.specs.PlayerState.{Settings, due_of, block_of}
use Rattle.panel_claims.specs.Fresh.{Setup}
use Rattle.player_model.specs.Calls.{Entrance, unit, reads, Call, submit, burst, keyboard, cycle, change, undo, one, lines_of, taken_of, Last, none, latest, Transition, taken_in, cycles_with, last_with, transition_of, trace_from, trace, all_taken, after_all}
use Rattle.player_model.specs.Condition3.{above, in_time, InTime, AsPlain, PlainAlike}
use Rattle.player_model.specs.History.{Reached, History}
use Rattle.player_model.proofs.Lists.{all_append, all_map}
use Rattle.code_loader.specs.Loading.{load_of}
use Rattle.code_loader_claims.specs.Claims.{StandsFor}
use Rattle.panel.specs.Display.{display_of}
use Rattle.panel.specs.State.{program_of, player_state_of}
use Rattle.panel.specs.declared.Panel.{Panel}
use Rattle.panel_claims.specs.Verdict.{HasFields, here, there, Playable, Fits, AllFit, Faulty, untimed, unplayable, late, full, AtEntrance, over, bad_text, cut, not_carried, out_of_range, too_many_values, left_over, faulty, taken}
use Rattle.panel_claims.specs.Claims.{core_after, after_of, panel, Given, first_in_use, fresh, settings, display_by, past, panel_after, LinesFit, CycleByTree, Condition3}
use Rattle.panel_claims.proofs.Ranged.{ranged, AllRanged, reads-ranged}
use Rattle.panel_claims.proofs.Past.{no_line, no-others, Invariant, own, invariant-all, stands, fresh-invariant, invariant-after, past_is, placed_past, block-by-place, by-place}
use Rattle.panel_claims.proofs.Bursts.{at_unit, singly, Receives, received, unreceived, receives, taken-of}
use Rattle.panel_claims.proofs.Cycles.{Counted}
use Rattle.panel_claims.proofs.Answers.{at-entrance-given, past-unit}
use Rattle.panel_claims.proofs.Decided.{at-entrance}

-- ---- no more values than fields

enough-fields : {name n : ℕ} {is : List Instrument} → HasFields name n is → n ≤ length (instrument_of is name).fields
unfolding instrument_of
enough-fields {name} (here {i = i} q h) = rw (eq-eqb i.name name q) h
enough-fields {name} (there {i = i} q h) = rw (ne_eqb i.name name q) (enough-fields h)

module _ (is : List Instrument) where
  abbrev AllTakable : List Line → Type 0
  AllTakable ls = All (λ (l : Line). written.Fits is l l.event) ls

  pub event-fits : (l : Line) (e : Event) → Playable is l.count e → ranged e → written.Fits is l e
  event-fits l (Instr label name d) h r = omega (arith, enough-fields h, length-take l.count l.values)
  event-fits l (Control label x y) h r = r
  event-fits l End h r = tt
  event-fits l (Tempo t) h r = tt

  lines-fitting : (d : Entrance) (reached : Reached) (ls : List Line) (n : ℕ) → AllFit is d reached n ls → AllRanged ls → AllTakable ls
  lines-fitting d reached [] n h r = tt
  lines-fitting d reached (l ∷ ls) n h r = (event-fits l l.event h.0.playable r.0, lines-fitting d reached ls _ h.1 r.1)

  -- ---- one call

  faulty-takes : (d : Entrance) (reached : Reached) (n : ℕ) (l : Line) (number : ℕ) (ls : List Line) → Faulty is d reached n l number
      → AllTakable (cond (eqb number 0) ls [] ++ [])
  faulty-takes d reached n l number ls (untimed m t) = tt
  faulty-takes d reached n l number ls (unplayable t u) = tt
  faulty-takes d reached n l number ls (late t u x) = tt
  faulty-takes d reached n l number ls (full t u x y) = tt

  entrance-fits : (p : Panel) (d : Entrance) (handed : List ℕ) (number line : ℕ) → AtEntrance is (own p) d handed number line
      → AllTakable (taken_of (lines_of (submit d handed)) (one number line))
  entrance-fits p d handed number line (over e) = tt
  entrance-fits p d handed number line (bad_text e q) = tt
  entrance-fits p d handed number line (cut e q) = tt
  entrance-fits p d handed number line (not_carried e q) = tt
  entrance-fits p d handed number line (out_of_range e q) = tt
  entrance-fits p d handed number line (too_many_values e q) = tt
  entrance-fits p d handed number line (left_over e q) = tt
  entrance-fits p d handed number line (faulty {number = m} before l later s t f) = faulty-takes d (own p).reached _ l m (reads d handed).lines f
  entrance-fits p d handed number line (taken ls s t) =
      all_append (λ (l : Line). written.Fits is l l.event) (reads d handed).lines []
      (lines-fitting d (own p).reached (reads d handed).lines (length (own p).holds.waits)
      (rw s.2 t) (reads-ranged d handed)) tt

  bring-fits : (p : Panel) → StandsFor is (program_of p) → length p.core.state.queue.lines ≡ 64 → (d : Entrance) (handed : List ℕ)
      → AllTakable (taken_of (lines_of (submit d handed)) (after_of p (submit d handed)).answers)
  bring-fits p r long d handed =
      let x = at-entrance is (own p) d handed in
      rw (at-entrance-given is p r long d handed x.number x.line x.verdict) (entrance-fits p d handed x.number x.line x.verdict)

  -- the units of a burst, each as it comes
  units-fit : (us : List (List ℕ)) (p : Panel) → StandsFor is (program_of p) → length p.core.state.queue.lines ≡ 64 → AllTakable (taken-of us (singly p us).numbers)
  unfolding singly each after_of core_after
  units-fit [] p r long = tt
  units-fit (u ∷ us) p r long =
      let y = past-unit p long u in
      all_append (λ (l : Line). written.Fits is l l.event) (cond (eqb (number_of (at_unit p u).answer) 0) (reads unit u).lines [])
      (taken-of us (singly (at_unit p u).left us).numbers)
      (rw append-nil at (bring-fits p r long unit u)) (units-fit us (at_unit p u).left (rw y.has r) y.long)

  burst-fits : (p : Panel) → StandsFor is (program_of p) → length p.core.state.queue.lines ≡ 64 → (bytes area : List ℕ)
      → AllTakable (taken_of (lines_of (burst bytes area)) (after_of p (burst bytes area)).answers)
  burst-fits p r long bytes area = go (receives p bytes area)
    where
      go : Receives p bytes area (after_of p (burst bytes area)) → AllTakable (taken_of (lines_of (burst bytes area)) (after_of p (burst bytes area)).answers)
      go (received us q x) =
          rw (x, q) (units-fit us p r long)
      go (unreceived n z x) = rw (x, no-others n (each (λ (u : List ℕ). (reads unit u).lines) (units_in (burst_of bytes)))) tt

  call_fits : (p : Panel) → StandsFor is (program_of p) → length p.core.state.queue.lines ≡ 64 → (c : Call) → AllTakable (taken_of (lines_of c) (after_of p c).answers)
  call_fits p r long (submit d handed) = bring-fits p r long d handed
  call_fits p r long (burst bytes area) = burst-fits p r long bytes area
  call_fits p r long (keyboard bytes) = rw (no_line (after_of p (keyboard bytes)).answers) tt
  call_fits p r long (cycle b) = rw (no_line (after_of p (cycle b)).answers) tt
  call_fits p r long (change area handed) = rw (no_line (after_of p (change area handed)).answers) tt
  call_fits p r long (undo area) = rw (no_line (after_of p (undo area)).answers) tt

-- ---- every list of calls

module _ (u : Setup) (is : List Instrument) (g : Given u is) where
  all-fitting : (cs : List Call) (n : ℕ) (z : Last) (p : Panel) → Invariant (load_of u.orchestra).left u.chosen is (stands u is g) p
      → AllTakable is (all_taken (trace_from panel n z p cs))
  unfolding trace_from all_taken after_all
  all-fitting [] n z p k = tt
  all-fitting (c ∷ cs) n z p k =
      let m = transition_of panel n z p c in
      all_append (λ (l : Line). written.Fits is l l.event) (taken_in m) (all_taken (trace_from panel (cycles_with m) (last_with m) (after_of p c).player cs))
      (call_fits is p (subst⁻¹ (StandsFor is) k.has (stands u is g)) k.long c)
      (all-fitting cs (cycles_with m) (last_with m) (after_of p c).player (invariant-all (load_of u.orchestra).left u.chosen is (stands u is g) (c ∷ []) p k))

pub lines_fit : LinesFit
unfolding LinesFit
lines_fit u is g cs = all-fitting u is g cs 0 none (fresh u) (fresh-invariant u is g)

-- ---- every cycle of sound

pub written-past : (u : Setup) (is : List Instrument) → Given u is → (cs : List Call)
    → PastAsWritten is u.chosen (first_in_use u) (trace panel (fresh u) cs)
unfolding LinesFit
written-past u is g cs =
    every-past Panel is u.chosen (first_in_use u) (trace panel (fresh u) cs) g.accepted.named (lines_fit u is g cs)

-- as many notes
as_many : {S S' : Type 0} (R : S → S' → Type 0) (ms : List (Note S)) (ns : List (Note S')) → NotesAs R ms ns → length ms ≡ length ns
as_many R [] [] h = refl
as_many R [] (n ∷ ns) h = absurd h
as_many R (m ∷ ms) [] h = absurd h
as_many R (m ∷ ms) (n ∷ ns) h = ap suc (as_many R ms ns h.1)

told-so : (is : List Instrument) (p : Panel) (h : History written.VoiceState) → Counted p → StateAs (HeldAs is) (player_state_of p) h.holds → display_of p.core ≡ display_by h
told-so is p h k a =
    let lines = k.lines ∙ ap length a.waits in
    let messages = k.messages ∙ ap length a.messages in
    let notes = k.notes ∙ as_many (HeldAs is) (player_state_of p).plays.notes h.holds.plays.notes a.notes in
    λ i. record { missed = (a.counts i).missed; lines = lines i; messages = messages i; notes = notes i; ended = a.ended i; position = a.position i }

pub cycle-by-tree : CycleByTree
unfolding CycleByTree
cycle-by-tree u is g cs =
    let e = past_is u is g cs in
    let w = written-past u is g cs in
    let holds : StateAs (HeldAs is) (player_state_of (panel_after u is cs)) (past u is cs).holds =
    subst⁻¹ (λ (h : History by_place.VoiceState). StateAs (HeldAs is) h.holds (past u is cs).holds) e w.holds in (
      record {
        holds = holds;
        told = told-so is (panel_after u is cs) (past u is cs) (invariant-after u is g cs).counted holds;
        reached = ap (λ (h : History by_place.VoiceState). h.reached) e ∙ w.reached;
        set = ap (λ (h : History by_place.VoiceState). h.set) e ∙ w.set;
      },
      λ lent t. block-by-place u is g cs lent t ∙ w.block (in_force u.chosen (placed_past u is cs).set)
          ∙ ap (λ (k : InUse). block_of (written_voices is) (in_force u.chosen k) (due_of (past u is cs).holds) (past u is cs).holds.plays) w.set,
    )

-- ---- condition 3

module _ (is : List Instrument) (start : Float) (s : ℕ → Settings) (ls : List Line) (w : (n : ℕ) → PlaysAsWritten is start s ls n) where
  line-timely : (z : Last) (l : Line) → in_time panel (written_voices is) start s ls z l → in_time panel (tree_voices is) start s ls z l
  line-timely none l h = h
  line-timely (latest n) l h = subst⁻¹ (λ (x : ℕ). above x l.when) (w n).position h

  timely : (m : Transition Panel) → InTime panel (written_voices is) start s ls m → InTime panel (tree_voices is) start s ls m
  timely m h = all_map (in_time panel (written_voices is) start s ls m.last) (in_time panel (tree_voices is) start s ls m.last) (line-timely m.last) (taken_in m) h

  pub as_written : (m : Transition Panel) → AsPlain panel (tree_voices is) start s ls m → AsPlain panel (written_voices is) start s ls m
  as_written m a =
      record {
        answer = λ q. a.answer q ∙ ap (λ (y : ℕ). one y 0) (w m.cycles).answers;
        block = λ q t. a.block q t ∙ (w m.cycles).blocks;
        counts = a.counts ∙ (λ i. record { missed = (w (cycles_with m)).missed i });
      }

pub condition-3 : Condition3
unfolding Condition3 PlainAlike LinesFit
condition-3 u is g cs away i =
    let ms = trace panel (fresh u) cs in
    let ls = all_taken ms in
    let s = settings u ms in
    let start = starting_tempo (first_in_use u) in
    let w : (n : ℕ) → PlaysAsWritten is start s ls n = λ n. every-piece is start s ls n g.accepted.named (lines_fit u is g cs) in
    all_map (AsPlain panel (tree_voices is) start s ls) (AsPlain panel (written_voices is) start s ls) (as_written is start s ls w) ms
    (by-place u is g cs away (all_map (InTime panel (written_voices is) start s ls) (InTime panel (tree_voices is) start s ls) (timely is start s ls w) ms i))

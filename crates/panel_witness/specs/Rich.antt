-- A richer piece: a note with a label, a field, an ivar, an asig, an imports ksig and an if with else; sixteen notes and a seventeenth; a stick
-- before the first cycle, and behind it a unit with a control line and a keypad line with the end.
use Rattle.std.specs.Prelude.{◌≡◌, false, List, [], ◌∷◌, ◌++◌, ℕ, zero as none, suc, ℤ, pos, replicate, Float}
use Rattle.std.specs.Float.{binary32}
use Rattle.std.specs.Float.Ieee.{of_bits}
use Rattle.base_answer.specs.declared.Answer.TheVariants.{Taken}
use Rattle.orchestra_signs.specs.Operators.{Binary}
use Rattle.orchestra_syntax.specs.Tree.{name, binary, done, assign, output, branch, Instrument, ivar_kind, asig_kind, imports_kind}
use Rattle.orchestra_reader.specs.Verdict.{Accepted}
use Rattle.score_line.specs.declared.When.TheVariants.{Timed}
use Rattle.score_line.specs.declared.Label.TheVariants.{Unlabelled, Labelled}
use Rattle.score_line.specs.declared.Event.{Event}
use Rattle.score_line.specs.declared.Event.TheVariants.{Instr, Control, End}
use Rattle.score_line.specs.declared.Line.{Line}
use Rattle.player_model.specs.Cycle.{Voices, samples}
use Rattle.player_model.specs.Lists.{All, each}
use Rattle.player_model.specs.Plain.{plain_at, answer_at, block_at}
use Rattle.player_model.specs.Calls.{stick, unit, keypad, text, Entrance, reads, Call, submit, cycle, Answer, one, Transition, trace, all_taken}
use Rattle.player_model.specs.Condition3.{above, InTime}
use Rattle.voices_source.specs.Voices.{written_voices}
use Rattle.panel.specs.State.{player_state_of}
use Rattle.panel.specs.declared.Panel.{Panel}
use Rattle.player_model.specs.Set.{starting_tempo}
use Rattle.panel_claims.specs.Fresh.{Setup}
use Rattle.panel_claims.specs.Claims.{after_of, panel, first_in_use, fresh, settings}
use Rattle.panel_witness.specs.Growing.{ceiling, setup, start, fixed}
use Rattle.panel_witness.specs.Calls.{lent}

-- instr s1 ( s2 ) { ivar s3 ; asig s4 ; imports ksig s5 ;
--   s3 = s2 + s2 ; if ( s5 ) { s4 = s3 + s5 ; } else { s4 = s3 ; } output ( s4 ) ; }
-- instr s6 ( ) { }
abbrev pub bytes : List ℕ
bytes =
    1 ∷ 0xf0 ∷ 0 ∷ 1 ∷ 15 ∷ 0xf0 ∷ 0 ∷ 2 ∷ 16 ∷ 17
    ∷ 2 ∷ 0xf0 ∷ 0 ∷ 3 ∷ 20 ∷ 4 ∷ 0xf0 ∷ 0 ∷ 4 ∷ 20 ∷ 5 ∷ 3 ∷ 0xf0 ∷ 0 ∷ 5 ∷ 20
    ∷ 0xf0 ∷ 0 ∷ 3 ∷ 21 ∷ 0xf0 ∷ 0 ∷ 2 ∷ 32 ∷ 0xf0 ∷ 0 ∷ 2 ∷ 20
    ∷ 7 ∷ 15 ∷ 0xf0 ∷ 0 ∷ 5 ∷ 16 ∷ 17 ∷ 0xf0 ∷ 0 ∷ 4 ∷ 21 ∷ 0xf0 ∷ 0 ∷ 3 ∷ 32 ∷ 0xf0 ∷ 0 ∷ 5 ∷ 20 ∷ 18
    ∷ 8 ∷ 17 ∷ 0xf0 ∷ 0 ∷ 4 ∷ 21 ∷ 0xf0 ∷ 0 ∷ 3 ∷ 20 ∷ 18
    ∷ 6 ∷ 15 ∷ 0xf0 ∷ 0 ∷ 4 ∷ 16 ∷ 20 ∷ 18
    ∷ 1 ∷ 0xf0 ∷ 0 ∷ 6 ∷ 15 ∷ 16 ∷ 17 ∷ 18 ∷ 0xff ∷ []

abbrev pub tree : List Instrument
tree =
    record {
      name = 1;
      fields = 2 ∷ [];
      declarations =
          record { kind = ivar_kind; names = 3 ∷ [] }
          ∷ record { kind = asig_kind; names = 4 ∷ [] }
          ∷ record { kind = imports_kind; names = 5 ∷ [] }
          ∷ [];
      body =
          assign 3 (binary Binary.plus (name 2) (name 2))
          (branch (name 5) (assign 4 (binary Binary.plus (name 3) (name 5)) done) (assign 4 (name 3) done) (output (name 4) done));
    }
    ∷ record { name = 6; fields = []; declarations = []; body = done }
    ∷ []

abbrev pub zero : Float
zero = of_bits binary32 0

-- a timed line
abbrev pub line_at : Float → ℕ → List Float → Event → Line
line_at time count values event = record { when = Timed false time; priority = false; event = event; count = count; values = values }

-- the note of s1, with label 7 and the value 0.125, without end
abbrev pub tone : Line
tone = line_at zero 1 (of_bits binary32 0x3e000000 ∷ replicate 7 zero) (Instr (Labelled 7) 1 (of_bits binary32 0xbf800000))

-- a note of s6, of duration 0
abbrev pub rest : Line
rest = line_at zero 0 (replicate 8 zero) (Instr Unlabelled 6 zero)

-- s5 set to 0.25 under label 7, at beat 1/128
abbrev pub control : Line
control = line_at (of_bits binary32 0x3c000000) 0 (replicate 8 zero) (Control 7 5 (of_bits binary32 0x3e800000))

-- the end, at beat 1/64
abbrev pub end : Line
end = line_at (of_bits binary32 0x3c800000) 0 (replicate 8 zero) End

-- the stick's bytes: the tone, and sixteen rests
abbrev pub on_stick : List ℕ
on_stick =
    0 ∷ 1 ∷ 24 ∷ 0 ∷ 0 ∷ 0 ∷ 0 ∷ 32 ∷ 0 ∷ 224 ∷ 0 ∷ 55 ∷ 240 ∷ 0 ∷ 0 ∷ 0 ∷ 39 ∷ 192 ∷ 0 ∷ 0 ∷ 16 ∷ 0 ∷ 0 ∷ 0 ∷ 0 ∷ 0 ∷ 1 ∷ 128 ∷ 0 ∷ 0
    ∷ 0 ∷ 0 ∷ 32 ∷ 0 ∷ 0 ∷ 0 ∷ 0 ∷ 0 ∷ 3 ∷ 0 ∷ 0 ∷ 0 ∷ 0 ∷ 0 ∷ 64 ∷ 0 ∷ 0 ∷ 0 ∷ 0 ∷ 0 ∷ 6 ∷ 0 ∷ 0 ∷ 0 ∷ 0 ∷ 0 ∷ 128 ∷ 0 ∷ 0 ∷ 0
    ∷ 0 ∷ 0 ∷ 12 ∷ 0 ∷ 0 ∷ 0 ∷ 0 ∷ 1 ∷ 0 ∷ 0 ∷ 0 ∷ 0 ∷ 0 ∷ 0 ∷ 24 ∷ 0 ∷ 0 ∷ 0 ∷ 0 ∷ 2 ∷ 0 ∷ 0 ∷ 0 ∷ 0 ∷ 0 ∷ 0 ∷ 48 ∷ 0 ∷ 0 ∷ 0
    ∷ 0 ∷ 4 ∷ 0 ∷ 0 ∷ 0 ∷ 0 ∷ 0 ∷ 0 ∷ 96 ∷ 0 ∷ 0 ∷ 0 ∷ 0 ∷ 8 ∷ 0 ∷ 0 ∷ 0 ∷ 0 ∷ 0 ∷ 0 ∷ 192 ∷ 0 ∷ 0 ∷ 0 ∷ 0 ∷ 16 ∷ 0 ∷ 0 ∷ 0 ∷ 0
    ∷ 0 ∷ 1 ∷ 128 ∷ 0 ∷ 0 ∷ 0 ∷ 0 ∷ 32 ∷ 0 ∷ 0 ∷ 0 ∷ 0 ∷ 0 ∷ 3 ∷ 0 ∷ 0 ∷ 0 ∷ 0 ∷ 0 ∷ 64 ∷ 0 ∷ 0 ∷ 0 ∷ 0 ∷ 0 ∷ 6 ∷ 0 ∷ 0 ∷ 0 ∷ 0
    ∷ 0 ∷ 128 ∷ 0 ∷ 0 ∷ 0 ∷ 0 ∷ 0 ∷ 12 ∷ 0 ∷ 0 ∷ 0 ∷ 0 ∷ 1 ∷ 0 ∷ 0 ∷ 0 ∷ 0 ∷ 0 ∷ 0 ∷ 24 ∷ 0 ∷ 0 ∷ 0 ∷ 0 ∷ 2 ∷ 0 ∷ 0 ∷ 0 ∷ 0 ∷ 0
    ∷ 0 ∷ 48 ∷ 0 ∷ 0 ∷ 0 ∷ 0 ∷ 4 ∷ 0 ∷ 0 ∷ 0 ∷ 0 ∷ 0 ∷ 0 ∷ 96 ∷ 0 ∷ 0 ∷ 0 ∷ 0 ∷ 8 ∷ 0 ∷ 0 ∷ 0 ∷ 0 ∷ 0 ∷ 0 ∷ 192 ∷ 0 ∷ 0 ∷ 0 ∷ 0
    ∷ 0 ∷ []

abbrev pub repeated : ℕ → List ℕ → List ℕ
repeated none bs = []
repeated (suc n) bs = bs ++ repeated n bs

-- the same lines as text: "s7: 0 s1 -1 0.125", and sixteen times "0 s6 0"
abbrev pub as_text : List ℕ
as_text =
    115 ∷ 55 ∷ 58 ∷ 32 ∷ 48 ∷ 32 ∷ 115 ∷ 49 ∷ 32 ∷ 45 ∷ 49 ∷ 32 ∷ 48 ∷ 46 ∷ 49 ∷ 50 ∷ 53 ∷ 10
    ∷ repeated 16 (48 ∷ 32 ∷ 115 ∷ 54 ∷ 32 ∷ 48 ∷ 10 ∷ [])

-- the unit's bytes, and the keypad's numbers
abbrev pub in_unit : List ℕ
in_unit = 35 ∷ 192 ∷ 0 ∷ 0 ∷ 1 ∷ 128 ∷ 3 ∷ 128 ∷ 2 ∷ 159 ∷ 64 ∷ 0 ∷ 0 ∷ 0 ∷ []

abbrev pub on_keypad : List ℕ
on_keypad = 1 ∷ 0 ∷ 0x3c800000 ∷ 0 ∷ 4 ∷ []

-- the lines taken, in order of arrival
abbrev pub before : List Line
before = tone ∷ replicate 16 rest

abbrev pub lines : List Line
lines = before ++ (control ∷ end ∷ [])

abbrev pub IsRead : Entrance → List ℕ → List Line → Type 0
IsRead d handed ls = ((reads d handed).answer ≡ Taken) × ((reads d handed).lines ≡ ls)

-- above the plain player's position at the start of cycle 0, which has answered 0 when these lines come
abbrev pub Later : {S : Type 0} → Voices S → Line → Type 0
Later v l = above (plain_at v start (fixed ceiling) lines 0).plays.position l.when

-- a cycle of the plain player: its answer and its block
abbrev pub Gives : {S : Type 0} → Voices S → ℕ → ℤ → Type 0
Gives v k x = (answer_at v start (fixed ceiling) lines k ≡ 0) × (block_at v start (fixed ceiling) lines k ≡ replicate samples x)

-- the piece, and what its plain player does with these notes
pub record Rich {S : Type 0} (v : Voices S) : Type 0 where
  pub accepted : Accepted bytes tree
  pub stick : IsRead stick on_stick before
  pub text : IsRead text as_text before
  pub unit : IsRead unit in_unit (control ∷ [])
  pub keypad : IsRead keypad on_keypad (end ∷ [])
  -- the lines behind cycle 0 are in time
  pub in_time : Later v control × Later v end
  -- the field's value twice, by the else; then with the control line's added
  pub first : Gives v 0 (pos 8192)
  pub second : Gives v 1 (pos 16384)
  -- the seventeenth note
  pub missed : (plain_at v start (fixed ceiling) lines 1).plays.counts.missed ≡ 1
  -- the end is found in cycle 2
  pub over : answer_at v start (fixed ceiling) lines 2 ≡ 9

-- ---- by the panel's own calls

abbrev pub calls : List Call
calls = submit stick on_stick ∷ cycle lent ∷ submit unit in_unit ∷ submit keypad on_keypad ∷ cycle lent ∷ cycle lent ∷ []

abbrev pub u : Setup
u = setup bytes

abbrev pub transitions : List (Transition Panel)
transitions = trace panel (fresh u) calls

abbrev pub answers_of : List (Transition Panel) → List (List Answer)
answers_of ms = each (λ (m : Transition Panel). m.after.answers) ms

-- the panel after some of them
abbrev pub p1 : Panel
p1 = (after_of (fresh u) (submit stick on_stick)).player

abbrev pub p2 : Panel
p2 = (after_of p1 (cycle lent)).player

abbrev pub p3 : Panel
p3 = (after_of p2 (submit unit in_unit)).player

abbrev pub p4 : Panel
p4 = (after_of p3 (submit keypad on_keypad)).player

-- Condition 3's premise is met with lines that come behind a cycle, and so each cycle is the plain player's.
pub record Walked : Type 0 where
  pub taken : all_taken transitions ≡ lines
  pub in_time : All (InTime panel (written_voices tree) (starting_tempo (first_in_use u)) (settings u transitions) lines) transitions
  pub answers : answers_of transitions ≡ one 0 0 ∷ one 0 0 ∷ one 0 0 ∷ one 0 0 ∷ one 0 0 ∷ one 9 0 ∷ []
  pub first : (after_of p1 (cycle lent)).buffers.block ≡ replicate samples (pos 8192)
  pub missed : (player_state_of p2).plays.counts.missed ≡ 1
  pub second : (after_of p4 (cycle lent)).buffers.block ≡ replicate samples (pos 16384)

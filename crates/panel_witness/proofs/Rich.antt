-- The richer piece, computed.
use mathlib.Core.Path.{◌≡◌, refl, sym, ◌∙◌}
use Prim.Native.Nat.{ℕ, zero, suc, ◌≤◌, ◌<◌}
use lib.IntN.{ℤ, pos}
use lib.ListN.{replicate}
use mathlib.Core.List.{List, [], ◌∷◌}
use native.Mathlib.Omega.{arith}
use lib.Ieee.{of_bits, of_int, to_bits, fits, size, add, mul, round, lt, le, eq, ne}
use Rattle.base_bitstream.specs.Bits as bitstream-bits
use Rattle.base_bitstream.specs.Fields as bitstream-fields
use Rattle.base_bitstream.specs.Filling as bitstream-filling
use Rattle.base_formats.specs.Format as formats-format
use Rattle.score_line.specs.LineFormat as score-line-format
use Rattle.score_line.specs.Reading as score-line-reading
use Rattle.score_reader.specs.Score as score-score
use Rattle.text_numerals.specs.Numeral as numerals
use Rattle.text_numerals.specs.inside.Reading as read-numbers
use Rattle.text_format.specs.Content as content
use Rattle.text_format.specs.inside.Reading as text-reading
use Rattle.base_timebase.specs.inside.Range as timebase-range
use Rattle.base_timebase.specs.Time as timebase-time
use Rattle.orchestra_tokens.specs.declared.Token.{Token}
use Rattle.orchestra_tokens.specs.declared.Token.TheVariants.{Symbol, Sign}
use Rattle.orchestra_tokens.specs.Encoding.{all_valid, encoded, bytes_of}
use Rattle.orchestra_tokens.specs.Measures.{opened, since, brackets_within, stretches_within}
use Rattle.orchestra_syntax.specs.Names.{named, named_by, has, apart, known_in, known, all_obey_name_rules}
use Rattle.orchestra_syntax.specs.inside.Placed.{place_from, put_in, put}
use Rattle.orchestra_syntax.specs.Rates.{rate_of, rate, obeys_rate_rules, rate_rules}
use Rattle.orchestra_syntax.specs.Grammar.{named as a·name, sides, plus, none, set, out, either, one, none as no·fields, some as some·fields, ivar, asig, imports, none as no·decls, some as some·decls, is, Orchestra, last, next}
use Rattle.orchestra_reader.specs.Verdict.{Sized, Accepted}
use Rattle.orchestra_semantics.specs.inside.Placed.{value, assigned, outputs, pass, fresh, birth, k_pass, a_passes, cycle}
use Rattle.score_line.specs.declared.Line.{Line}
use Rattle.player_model.specs.Lists.{filter, fold, each, All}
use Rattle.player_model.proofs.Lists.{all_append}
use Rattle.player_model.specs.Cycle.{Voices, is_due, insert, ordered, any_end, last_tempo, limited, joined_by, goes_on, born, started, controlled_by, controlled, after_messages, run_from, run_all}
use Rattle.player_model.specs.PlayerState.{due_at, later_than, ends_by, answer_of, started_of, notes_to_run, rendered_of, block_of, played, cycled}
use Rattle.player_model.specs.Plain.{plain_start, plain_at, answer_at, block_at}
use Rattle.player_model.specs.Calls.{stick, unit, keypad, text}
use Rattle.base_float32.specs.Limit.{held, sample_of}
use Rattle.base_float32.specs.Builtins.{truth}
use Rattle.base_timebase.specs.Time.{ticks_in, cycle_of, cycle_in}
use Rattle.voices_compiled.specs.Voices as code
use Rattle.orchestra_semantics.specs.Meaning.{silent, instrument_of, no_symbol}
use Rattle.voices_resolved.specs.Tree.{imports_of, tree_voices}
use Rattle.voices_source.specs.Voices.{written_voices, Fits}
use Rattle.voices_source.specs.inside.Translation.{PlaysAsWritten}
use Rattle.voices_source.proofs.Written.{every-piece}
use Rattle.player_model.specs.Set.{starting_tempo}
use Rattle.panel_witness.specs.Growing.{ceiling, start, fixed}
use Rattle.panel_witness.specs.Rich.{bytes, tree, rest, on_stick, as_text, in_unit, on_keypad, before, control, end, lines, IsRead, Later, Gives, Rich}
use Rattle.base_bitstream.specs.inside.Fields as bitstream-fields-inside
use Rattle.score_reader.specs.inside.Walk as score-score-inside

abbrev tokens : List Token
tokens =
    Sign 1 ∷ Symbol 1 ∷ Sign 15 ∷ Symbol 2 ∷ Sign 16 ∷ Sign 17
    ∷ Sign 2 ∷ Symbol 3 ∷ Sign 20 ∷ Sign 4 ∷ Symbol 4 ∷ Sign 20 ∷ Sign 5 ∷ Sign 3 ∷ Symbol 5 ∷ Sign 20
    ∷ Symbol 3 ∷ Sign 21 ∷ Symbol 2 ∷ Sign 32 ∷ Symbol 2 ∷ Sign 20
    ∷ Sign 7 ∷ Sign 15 ∷ Symbol 5 ∷ Sign 16 ∷ Sign 17 ∷ Symbol 4 ∷ Sign 21 ∷ Symbol 3 ∷ Sign 32 ∷ Symbol 5 ∷ Sign 20 ∷ Sign 18
    ∷ Sign 8 ∷ Sign 17 ∷ Symbol 4 ∷ Sign 21 ∷ Symbol 3 ∷ Sign 20 ∷ Sign 18
    ∷ Sign 6 ∷ Sign 15 ∷ Symbol 4 ∷ Sign 16 ∷ Sign 20 ∷ Sign 18
    ∷ Sign 1 ∷ Symbol 6 ∷ Sign 15 ∷ Sign 16 ∷ Sign 17 ∷ Sign 18 ∷ []

sized : Sized bytes tokens
unfolding all_valid encoded bytes_of opened since brackets_within stretches_within of_bits fits size
sized = record { short = omega arith; encodes = record { listed = refl; encoded = refl }; within = refl }

derived : Orchestra tree tokens
derived =
    next
    (is 1 (some·fields (one 2)) (some·decls ivar (one 3) (some·decls asig (one 4) (some·decls imports (one 5) no·decls)))
    (set 3 (sides {m = 0} {l = 5} plus (omega arith) (a·name 2) (a·name 2))
    (either (a·name 5) (set 4 (sides {m = 0} {l = 5} plus (omega arith) (a·name 3) (a·name 5)) none) (set 4 (a·name 3) none)
    (out (a·name 4) none))))
    (last (is 6 no·fields no·decls none))

accepted : Accepted bytes tree
unfolding named named_by has apart known_in known all_obey_name_rules rate_of rate obeys_rate_rules rate_rules
accepted = record { tokens = tokens; sized = sized; derived = derived; named = refl; rated = refl }

-- what the entrances read
all_read : IsRead stick on_stick before × IsRead unit in_unit (control ∷ []) × IsRead keypad on_keypad (end ∷ [])
unfolding bitstream-bits.bit bitstream-bits.field bitstream-bits.bits_of bitstream-bits.value_of bitstream-fields.room_for bitstream-fields-inside.written bitstream-filling.filled bitstream-filling.filled_up bitstream-filling.bytes_from bitstream-filling.bytes_of bitstream-fields.read_at formats-format.number_from formats-format.small score-line-format.in_range score-line-format.float score-line-format.number score-line-format.timed score-line-format.when score-line-format.label score-line-format.kind score-line-format.labelled score-line-format.body score-line-format.counted score-line-format.values score-line-format.after_time score-line-format.parts score-line-format.padded score-line-format.line score-line-reading.line_of score-line-reading.answer_of score-line-reading.refused_line score-line-reading.line_read score-line-reading.line_at score-line-reading.line_in_words score-line-reading.whole_run score-line-reading.keypad_line formats-format.bit_source formats-format.keypad_source score-score.lines_from score-score.ended score-score.counted score-score.score_of score-score-inside.first_of score-score-inside.next_of score-score-inside.walked score-score.whole_line score-score.opened score-score.unit_of timebase-range.checked timebase-time.finite_bits timebase-time.time_bits timebase-time.duration_bits timebase-time.tempo_bits timebase-time.ticks_in timebase-time.cycle_of timebase-time.cycle_in of_bits le
all_read = ((refl, refl), (refl, refl), (refl, refl))

as-text : IsRead text as_text before
unfolding numerals.float_of read-numbers.starts_with read-numbers.rest read-numbers.is_digit read-numbers.digits_from read-numbers.without_point read-numbers.decimals_from read-numbers.unsigned_from read-numbers.number_from read-numbers.symbol_from read-numbers.name_from text-reading.past_spaces text-reading.gap_from text-reading.colon_from text-reading.next_name text-reading.next_number text-reading.values_from text-reading.instr_from text-reading.named_from text-reading.event_from text-reading.labelled_from text-reading.timed_from text-reading.body_from text-reading.line_from text-reading.lines_from content.judged_from text-reading.text_of content.words_of content.line_content formats-format.number_from formats-format.small score-line-format.in_range score-line-format.float score-line-format.number score-line-format.timed score-line-format.when score-line-format.label score-line-format.kind score-line-format.labelled score-line-format.body score-line-format.counted score-line-format.values score-line-format.after_time score-line-format.parts score-line-format.padded score-line-format.line score-line-reading.line_of score-line-reading.answer_of formats-format.keypad_source timebase-range.checked timebase-time.finite_bits timebase-time.time_bits timebase-time.duration_bits of_bits to_bits round le
as-text = (refl, refl)

in-time : {S : Type 0} (v : Voices S) → Later v control × Later v end
unfolding plain_at plain_start ticks_in of_bits le lt eq
in-time v = (omega arith, omega arith)

-- the cycles of the plain player
played-out : Gives (tree_voices tree) 0 (pos 8192) × Gives (tree_voices tree) 1 (pos 16384) × ((plain_at (tree_voices tree) start (fixed ceiling) lines 1).plays.counts.missed ≡ 1)
    × (answer_at (tree_voices tree) start (fixed ceiling) lines 2 ≡ 9)
unfolding answer_at answer_of block_at block_of limited rendered_of notes_to_run started_of after_messages run_all run_from started controlled due_at later_than plain_at cycled plain_start starting_tempo ends_by any_end played goes_on last_tempo cycle_in cycle_of filter fold each is_due insert ordered joined_by born controlled_by ticks_in tree_voices instrument_of imports_of silent sample_of held cycle k_pass a_passes pass outputs assigned value fresh birth put put_in named_by named place_from add mul round of_bits of_int lt le eq code.named truth ne
played-out = ((refl, refl), (refl, refl), refl, refl)

-- with the notes' values by place
by-place : Rich (tree_voices tree)
by-place =
    record {
      accepted = accepted;
      stick = all_read.0;
      text = as-text;
      unit = all_read.1;
      keypad = all_read.2;
      in_time = in-time (tree_voices tree);
      first = played-out.0;
      second = played-out.1;
      missed = played-out.2;
      over = played-out.3;
    }

-- ---- the lines fit

abbrev AllFits : List Line → Type 0
AllFits ls = All (λ (l : Line). Fits tree l l.event) ls

no-values : 0 ≤ 0
no-values = omega arith

one_value : 1 ≤ 1
one_value = omega arith

sixteen-bits : 5 < no_symbol
sixteen-bits = omega arith

rests-fitting : (n : ℕ) → AllFits (replicate n rest)
unfolding instrument_of
rests-fitting zero = tt
rests-fitting (suc n) = (no-values, rests-fitting n)

fitting : AllFits lines
unfolding instrument_of
fitting = all_append (λ (l : Line). Fits tree l l.event) before (control ∷ end ∷ []) (one_value, rests-fitting 16) (sixteen-bits, (tt, tt))

as_written : (n : ℕ) → PlaysAsWritten tree start (fixed ceiling) lines n
as_written n = every-piece tree start (fixed ceiling) lines n accepted.named fitting

gives : (k : ℕ) (x : ℤ) → Gives (tree_voices tree) k x → Gives (written_voices tree) k x
gives k x h = (sym (as_written k).answers ∙ h.0, sym (as_written k).blocks ∙ h.1)

pub rich : Rich (written_voices tree)
rich =
    record {
      accepted = accepted;
      stick = all_read.0;
      text = as-text;
      unit = all_read.1;
      keypad = all_read.2;
      in_time = in-time (written_voices tree);
      first = gives 0 _ by-place.first;
      second = gives 1 _ by-place.second;
      missed = sym (as_written 1).missed ∙ by-place.missed;
      over = sym (as_written 2).answers ∙ by-place.over;
    }

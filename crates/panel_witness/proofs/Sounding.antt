-- The piece's tokens, its tree and its blocks, computed.
use mathlib.Core.Path.{refl, sym, ◌∙◌}
use mathlib.Core.List.{List, [], ◌∷◌}
use Prim.Native.Nat.{ℕ, ◌≤◌}
use native.Mathlib.Omega.{arith}
use lib.Ieee.{binary32, of_bits, of_int, to_bits, fits, size, add, mul, round, lt, le, eq}
use Rattle.orchestra_tokens.specs.declared.Token.{Token}
use Rattle.orchestra_tokens.specs.declared.Token.TheVariants.{Number, Symbol, Sign}
use Rattle.orchestra_tokens.specs.Encoding.{all_valid, encoded, bytes_of}
use Rattle.orchestra_tokens.specs.Measures.{opened, since, brackets_within, stretches_within}
use Rattle.orchestra_syntax.specs.Names.{named, named_by, has, apart, known_in, known, all_obey_name_rules}
use Rattle.orchestra_syntax.specs.inside.Placed.{place_from, put_in, put}
use Rattle.orchestra_syntax.specs.Rates.{rate_of, rate, obeys_rate_rules, rate_rules}
use Rattle.orchestra_syntax.specs.Grammar.{real, named as a·name, sides, plus, none, set, out, one, none as no·fields, ksig, none as no·decls, some as some·decls, is, Orchestra, last}
use Rattle.orchestra_reader.specs.Verdict.{Sized, Accepted}
use Rattle.orchestra_semantics.specs.inside.Placed.{value, assigned, outputs, pass, fresh, birth, k_pass, a_passes, cycle}
use Rattle.score_line.specs.declared.Line.{Line}
use Rattle.player_model.specs.Lists.{filter, fold, each, All}
use Rattle.player_model.specs.Cycle.{is_due, insert, ordered, any_end, last_tempo, limited, joined_by, goes_on, born, started, controlled_by, controlled, after_messages, run_from, run_all}
use Rattle.player_model.specs.PlayerState.{due_at, later_than, ends_by, answer_of, started_of, notes_to_run, rendered_of, block_of, played, cycled}
use Rattle.player_model.specs.Plain.{plain_start, plain_at, answer_at, block_at}
use Rattle.base_float32.specs.Limit.{held, sample_of}
use Rattle.base_timebase.specs.Time.{ticks_in, cycle_of, cycle_in}
use Rattle.orchestra_semantics.specs.Meaning.{silent, instrument_of}
use Rattle.voices_resolved.specs.Tree.{imports_of, tree_voices}
use Rattle.voices_source.specs.Voices.{written_voices, Fits}
use Rattle.voices_source.specs.inside.Translation.{PlaysAsWritten}
use Rattle.voices_source.proofs.Written.{every-piece}
use Rattle.player_model.specs.Set.{starting_tempo}
use Rattle.panel_witness.specs.Growing.{bytes, tree, line, ceiling, low, start, fixed, Sounds}

-- instr s1 ( ) { ksig s2 ; s2 = s2 + 0.25 ; output ( s2 ) ; }
abbrev tokens : List Token
tokens =
    Sign 1 ∷ Symbol 1 ∷ Sign 15 ∷ Sign 16 ∷ Sign 17 ∷ Sign 3 ∷ Symbol 2 ∷ Sign 20 ∷ Symbol 2 ∷ Sign 21 ∷ Symbol 2 ∷ Sign 32 ∷ Number (of_bits binary32 0x3e800000)
    ∷ Sign 20 ∷ Sign 6 ∷ Sign 15 ∷ Symbol 2 ∷ Sign 16 ∷ Sign 20 ∷ Sign 18 ∷ []

sized : Sized bytes tokens
unfolding all_valid encoded bytes_of opened since brackets_within stretches_within of_bits to_bits fits size
sized = record { short = omega arith; encodes = record { listed = refl; encoded = refl }; within = refl }

derived : Orchestra tree tokens
derived =
    last (is 1 no·fields (some·decls ksig (one 2) no·decls)
    (set 2 (sides {m = 0} {l = 5} plus (omega arith) (a·name 2) (real (of_bits binary32 0x3e800000))) (out (a·name 2) none)))

accepted : Accepted bytes tree
unfolding named named_by has apart known_in known all_obey_name_rules rate_of rate obeys_rate_rules rate_rules
accepted = record { tokens = tokens; sized = sized; derived = derived; named = refl; rated = refl }

-- with the notes' values by place
by-place : Sounds (tree_voices tree)
unfolding answer_at answer_of block_at block_of limited rendered_of notes_to_run started_of after_messages run_all run_from started controlled due_at later_than plain_at cycled plain_start starting_tempo ends_by any_end played goes_on last_tempo cycle_in cycle_of filter fold each is_due insert ordered joined_by born controlled_by ticks_in tree_voices instrument_of imports_of silent sample_of held cycle k_pass a_passes pass outputs assigned value fresh birth put put_in named_by named place_from add mul round of_bits of_int lt le eq
by-place = record { accepted = accepted; first = (refl, refl); second = (refl, refl); held = refl }

no-values : 0 ≤ 0
no-values = omega arith

fitting : All (λ (l : Line). Fits tree l l.event) (line ∷ [])
unfolding instrument_of
fitting = (no-values, tt)

as_written : (c n : ℕ) → PlaysAsWritten tree start (fixed c) (line ∷ []) n
as_written c n = every-piece tree start (fixed c) (line ∷ []) n accepted.named fitting

pub growing-sounds : Sounds (written_voices tree)
growing-sounds =
    record {
      accepted = accepted;
      first = (sym (as_written ceiling 0).answers ∙ by-place.first.0, sym (as_written ceiling 0).blocks ∙ by-place.first.1);
      second = (sym (as_written ceiling 1).answers ∙ by-place.second.0, sym (as_written ceiling 1).blocks ∙ by-place.second.1);
      held = sym (as_written low 1).blocks ∙ by-place.held;
    }

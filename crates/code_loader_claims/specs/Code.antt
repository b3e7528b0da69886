-- Where the straight-line code of each instrument stands.
use Rattle.std.specs.Prelude.{ℕ, suc, ◌+◌, ◌*◌, ◌≤◌, ◌<◌, ◌≡◌, List, [], ◌∷◌, ◌++◌, length, get_or, Float}
use Rattle.orchestra_syntax.specs.Tree.{Instrument}
use Rattle.orchestra_syntax.specs.inside.Program.{instrument, program}
use Rattle.orchestra_rules.specs.Formed.{FormedKinds, ops_of, args_of}
use Rattle.code_interpreter.specs.Passes.{stretch}
use Rattle.code_translation.specs.Translation.{lowered}
use Rattle.code_lowering.specs.Orchestra.{code, code_of, filled}
use Rattle.code_bounds.specs.Sizes.{body_at, AllPlayable, all_lowered}

-- the kinds of all declarations are kinds
unfoldable pub KindsAll : List Instrument → Type 0
KindsAll [] = Unit {0}
KindsAll (i ∷ is) = FormedKinds i.declarations × KindsAll is

-- where the words of each instrument begin in a pass whose words begin at `at`, and then where they end; the first instrument's program starts at n
unfoldable pub starts_from : ℕ → ℕ → ℕ → List Instrument → List ℕ
starts_from r at n [] = at ∷ []
starts_from r at n (i ∷ is) = at ∷ starts_from r (at + length (lowered r (body_at n i) 0 i.body)) (n + length (instrument i)) is

-- the words of the three rates, one behind the other
unfoldable pub words_of : List Instrument → List ℕ
words_of is = all_lowered 0 0 is ++ (all_lowered 1 0 is ++ all_lowered 2 0 is)

unfoldable pub starts_of : List Instrument → List ℕ
starts_of is =
    starts_from 0 0 0 is
    ++ (starts_from 1 (length (all_lowered 0 0 is)) 0 is ++ starts_from 2 (length (all_lowered 0 0 is) + length (all_lowered 1 0 is)) 0 is)

-- The code of a program, where there is room for three times its instructions and for the starts: these words and these starts.
unfoldable pub ProgramCode : Type 0
ProgramCode =
    (vals : List Float) (cap room : ℕ) (is : List Instrument) → AllPlayable vals 0 is → KindsAll is → 3 * length (program is) ≤ cap → 3 * suc (length is) ≤ room
    → code_of cap room (ops_of (program is)) (args_of (program is)) ≡ code (words_of is) (starts_of is)

-- Of n instruments, the run of the one behind those `before` in the passes of rate r goes from the start number r * (n + 1) + (how many are before) to the next
-- start: there stands its own straight-line code.
unfoldable pub InstrumentCode : Type 0
InstrumentCode =
    (r cap : ℕ) (before : List Instrument) (i : Instrument) (behind : List Instrument) → r < 3
    → let is = before ++ i ∷ behind in
    let at = r * suc (length is) + length before in
    stretch (get_or (starts_of is) at 0) (get_or (starts_of is) (suc at) 0) (filled cap (words_of is)) ≡ lowered r (body_at (length (program before)) i) 0 i.body

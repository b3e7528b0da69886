-- The reader above expressions, on lists of tokens: the program, and the tokens that are left.
use Rattle.std.specs.Prelude.{Option, Some, None}
use Rattle.std.specs.Prelude.{ℕ, zero, suc, Bool, true, false, cond, List, [], ◌∷◌, length, drop}
use Rattle.orchestra_tokens.specs.declared.Token.{Token}
use Rattle.orchestra_syntax.specs.Tree.{field_kind, imports_kind}
use Rattle.orchestra_syntax.specs.inside.Program.{ins, ins_arg, instr_op, output_op, if_op, else_op, end_op, store_op}
use Rattle.orchestra_signs.specs.Signs as S
use Rattle.orchestra_expressions.specs.Roles.{sign_l, round_open, round_close, comma}
use Rattle.orchestra_expressions.specs.Reader.{Res, no, ok, seq, sign, emit, reader}
use Rattle.orchestra_grammar.specs.declared.StatementStart.{StatementStart}
use Rattle.orchestra_grammar.specs.declared.StatementStart.TheVariants.{Name, Output, If, Stop}
use Rattle.orchestra_grammar.specs.declared.DeclarationStart.{DeclarationStart}
use Rattle.orchestra_grammar.specs.declared.DeclarationStart.TheVariants.{Kind, Imports, Stop as No}
use Rattle.orchestra_grammar.specs.Starts.{statement_start_l, declaration_start_l, name_token_l}

-- the signs that the reader looks for, by number
abbrev instr : ℕ
instr = S.number S.instr

abbrev ksig : ℕ
ksig = S.number S.ksig

abbrev else : ℕ
else = S.number S.else

abbrev curly_open : ℕ
curly_open = S.number S.curly_open

abbrev curly_close : ℕ
curly_close = S.number S.curly_close

abbrev semicolon : ℕ
semicolon = S.number S.semicolon

abbrev becomes : ℕ
becomes = S.number S.becomes

-- a reader that calls itself for fewer tokens, n calls deep
unfoldable pub deep : ((List Token → Res) → List Token → Res) → ℕ → List Token → Res
deep step zero ts = no
deep step (suc n) ts = step (deep step n) ts

-- as deep as the tokens can lead
unfoldable pub whole : ((List Token → Res) → List Token → Res) → List Token → Res
whole step ts = deep step (suc (length ts)) ts

-- ---- statements

-- = expression ;
abbrev pub set_to : ℕ → List Token → Res
set_to n ts = seq (sign becomes ts) (λ p. seq (reader.expr 0 p) (λ q. seq (sign semicolon q) (emit (ins_arg store_op n))))

-- ( expression ) and a sign
abbrev pub bracketed : ℕ → ℕ → List Token → Res
bracketed s o ts = seq (sign round_open ts) (λ p. seq (reader.expr 0 p) (λ q. seq (sign round_close q) (λ r. seq (sign s r) (emit (ins o)))))

-- the } of a block
abbrev pub close : ℕ → List Token → Res
close o ts = seq (sign curly_close ts) (emit (ins o))

-- with or without else { statements }
abbrev pub otherwise : (List Token → Res) → List Token → Res
otherwise B ts = cond (sign_l ts else) (seq (sign curly_open (drop 1 ts)) (λ p. seq (B p) (close end_op))) (emit (ins end_op) ts)

-- an if, after its first token
abbrev pub branches : (List Token → Res) → List Token → Res
branches B ts = seq (bracketed curly_open if_op ts) (λ p. seq (B p) (λ q. seq (close else_op q) (otherwise B)))

abbrev pub by_statement_start : (List Token → Res) → StatementStart → List Token → Res
by_statement_start B (Name n) ts = seq (set_to n (drop 1 ts)) B
by_statement_start B Output ts = seq (bracketed semicolon output_op (drop 1 ts)) B
by_statement_start B If ts = seq (branches B (drop 1 ts)) B
by_statement_start B Stop ts = ok [] ts

abbrev pub step_statements : (List Token → Res) → List Token → Res
step_statements B ts = by_statement_start B (statement_start_l ts) ts

-- statements, none or more, up to a token that starts none
abbrev pub statements : List Token → Res
statements = whole step_statements

-- ---- declarations

-- a name that must be there, as an instruction
abbrev pub by_name_token : ℕ → Option ℕ → List Token → Res
by_name_token o (Some n) ts = emit (ins_arg o n) ts
by_name_token o None ts = no

abbrev pub name : ℕ → List Token → Res
name o ts = by_name_token o (name_token_l ts) (drop 1 ts)

abbrev pub step_names : ℕ → (List Token → Res) → List Token → Res
step_names k N ts = seq (name k ts) (λ r. cond (sign_l r comma) (N (drop 1 r)) (ok [] r))

-- one or more names parted by commas
abbrev pub names : ℕ → List Token → Res
names k = whole (step_names k)

-- names and ;
abbrev pub listed : ℕ → List Token → Res
listed k ts = seq (names k ts) (sign semicolon)

abbrev pub by_declaration_start : (List Token → Res) → DeclarationStart → List Token → Res
by_declaration_start D (Kind k) ts = seq (listed k (drop 1 ts)) D
by_declaration_start D Imports ts = seq (sign ksig (drop 1 ts)) (λ p. seq (listed imports_kind p) D)
by_declaration_start D No ts = ok [] ts

abbrev pub step_declarations : (List Token → Res) → List Token → Res
step_declarations D ts = by_declaration_start D (declaration_start_l ts) ts

-- declarations, none or more, up to a token that starts none
abbrev pub declarations : List Token → Res
declarations = whole step_declarations

-- ---- instruments

-- names parted by commas, or none before )
abbrev pub fields : List Token → Res
fields ts = cond (sign_l ts round_close) (ok [] ts) (names field_kind ts)

-- name ( fields )
abbrev pub header : List Token → Res
header ts = seq (name instr_op ts) (λ p. seq (sign round_open p) (λ q. seq (fields q) (sign round_close)))

-- { declarations statements }
abbrev pub body : List Token → Res
body ts = seq (sign curly_open ts) (λ p. seq (declarations p) (λ q. seq (statements q) (sign curly_close)))

abbrev pub instrument : List Token → Res
instrument ts = seq (sign instr ts) (λ p. seq (header p) body)

-- no tokens are left
abbrev pub none : List Token → Bool
none [] = true
none (t ∷ ts) = false

abbrev pub step_instruments : (List Token → Res) → List Token → Res
step_instruments I ts = seq (instrument ts) (λ r. cond (none r) (ok [] []) (I r))

-- one or more instruments, and nothing after them
abbrev pub orchestra : List Token → Res
orchestra = whole step_instruments

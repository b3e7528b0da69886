-- What a token starts above expressions.
use Rattle.std.specs.Prelude.{Option, Some, None}
use Rattle.std.specs.Prelude.{ℕ, Bool, cond, List, [], ◌∷◌, eqb}
use Rattle.orchestra_signs.specs.Signs as S
use Rattle.orchestra_syntax.specs.Tree.{ivar_kind, ksig_kind, asig_kind}
use Rattle.orchestra_tokens.specs.declared.Token.{Token}
use Rattle.orchestra_tokens.specs.declared.Token.TheVariants.{Number, Symbol, Whole, Sign}
use Rattle.orchestra_grammar.specs.declared.StatementStart.{StatementStart}
use Rattle.orchestra_grammar.specs.declared.StatementStart.TheVariants.{Name, Output, If, Stop}
use Rattle.orchestra_grammar.specs.declared.DeclarationStart.{DeclarationStart}
use Rattle.orchestra_grammar.specs.declared.DeclarationStart.TheVariants.{Kind, Imports, Stop as No}

-- the number s is that of a sign
abbrev is : ℕ → S.Sign → Bool
is s k = eqb s (S.number k)

-- a statement
abbrev pub statement_sign : ℕ → StatementStart
statement_sign s = cond (is s S.output) Output (cond (is s S.if) If Stop)

abbrev pub statement_start_of : Token → StatementStart
statement_start_of (Number x) = Stop
statement_start_of (Symbol n) = Name n
statement_start_of (Whole w) = Stop
statement_start_of (Sign s) = statement_sign s

-- a declaration, by its kind
abbrev pub declaration_sign : ℕ → DeclarationStart
declaration_sign s = cond (is s S.ivar) (Kind ivar_kind) (cond (is s S.ksig) (Kind ksig_kind) (cond (is s S.asig) (Kind asig_kind) (cond (is s S.imports) Imports No)))

abbrev pub declaration_start_of : Token → DeclarationStart
declaration_start_of (Number x) = No
declaration_start_of (Symbol n) = No
declaration_start_of (Whole w) = No
declaration_start_of (Sign s) = declaration_sign s

-- a name
abbrev pub name_token_of : Token → Option ℕ
name_token_of (Number x) = None
name_token_of (Symbol n) = Some n
name_token_of (Whole w) = None
name_token_of (Sign s) = None

-- the same of the first of some tokens
abbrev pub statement_start_l : List Token → StatementStart
statement_start_l [] = Stop
statement_start_l (t ∷ ts) = statement_start_of t

abbrev pub declaration_start_l : List Token → DeclarationStart
declaration_start_l [] = No
declaration_start_l (t ∷ ts) = declaration_start_of t

abbrev pub name_token_l : List Token → Option ℕ
name_token_l [] = None
name_token_l (t ∷ ts) = name_token_of t

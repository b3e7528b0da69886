-- What a token starts.
use Rattle.std.specs.Prelude.{Some, None}
use Prim.Native.Nat.{ℕ}
use mathlib.Core.Path.{◌≡◌}
use Rattle.orchestra_tokens.specs.declared.Token.{Token}
use Rattle.orchestra_tokens.specs.declared.Token.TheVariants.{Symbol, Sign}
use Rattle.orchestra_grammar.specs.declared.StatementStart.TheVariants.{Name}
use Rattle.orchestra_grammar.specs.declared.DeclarationStart.{DeclarationStart}
use Rattle.orchestra_grammar.specs.Starts.{statement_start_of, declaration_start_of, declaration_sign, name_token_of}

pub name-start : {t : Token} {n : ℕ} → t ≡ Symbol n → Name n ≡ statement_start_of t
name-start e = rw e

pub name-word : {t : Token} {n : ℕ} → t ≡ Symbol n → Some n ≡ name_token_of t
name-word e = rw e

pub sign-leads : (k : ℕ) {t : Token} {s : ℕ} {h : DeclarationStart} → h ≡ declaration_sign k → t ≡ Sign s → s ≡ k → h ≡ declaration_start_of t
sign-leads k e f g = rw (f, g) e

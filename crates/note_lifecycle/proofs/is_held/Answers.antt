use mathlib.Core.Path.{sym, ap, ◌∙◌}
use mathlib.Core.Bool.{Bool, ◌&&◌}
use borrow.Author.Tests.{eq-eqb, ne_eqb}
use Rattle.std.specs.Prelude.{nat_eq}
use Rattle.note_lifecycle.proofs.OneNote.{held-marked, held-key, held-no-key}
use Rattle.note_lifecycle.proofs.is_held.Goals as goal

pub returns-then-n : goal.returns-then-n
returns-then-n c =
    held-marked _ _ _ c.if-n.true

pub returns-then-own-channel : goal.returns-then-own-channel
returns-then-own-channel c =
    ap (λ (b : Bool). b && nat_eq c.in-Some.own.1 c.args.key) (sym (eq-eqb _ _ c.if-own-channel.true)) ∙ held-key _ _ _ c.if-n.false _ c.in-Some.is

pub returns-else-own-channel : goal.returns-else-own-channel
returns-else-own-channel c =
    let e = ne_eqb _ _ c.if-own-channel.false in
    e ∙ ap (λ (b : Bool). b && nat_eq c.in-Some.own.1 c.args.key) (sym e) ∙ held-key _ _ _ c.if-n.false _ c.in-Some.is

pub returns-in-None : goal.returns-in-None
returns-in-None c =
    held-no-key _ _ _ c.in-None.is

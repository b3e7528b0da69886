-- What stands at a place among the tokens.
use Rattle.std.proofs.Common.{◌≡◌, ℕ, suc, ◌<◌, ◌≤◌, List, [], ◌∷◌, length, get_or, drop, drop_of_length-le, drop-cons}
use Rattle.orchestra_tokens.specs.declared.Token.{Token}

-- what the tokens say from a place on: by the token there, or past the last of them
module _ {A : Type 0} (f : List Token → A) (ts : List Token) (at : ℕ) {h : A} where
  pub here : (d : Token) → at < length ts → h ≡ f (get_or ts at d ∷ drop (suc at) ts) → h ≡ f (drop at ts)
  here d lt e = rw (drop-cons ts at d lt) e

  pub past : length ts ≤ at → h ≡ f [] → h ≡ f (drop at ts)
  past le e = rw (drop_of_length-le ts {i = at} le) e

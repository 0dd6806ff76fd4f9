-- The tables of digits hold the digits and their worths. Assumes nothing.
use Rattle.std.proofs.Common.{◌≡◌, ℕ, ◌<◌, Bool, true, eqb, refl, get_or}
use Rattle.std.proofs.lemmas.Bool.{agree_below, agree_below_at, eqb-true}
use Rattle.texts.specs.Identifiers.{digit, worth}
use Rattle.texts.specs.declared.identifiers.TheConstants.{DIGITS, WORTHS}

abbrev holds_digit : ℕ → Bool
holds_digit d = eqb (get_or DIGITS d 0) (digit d)

abbrev holds_worth : ℕ → Bool
holds_worth c = eqb (get_or WORTHS c 0) (worth c)

digits_hold : agree_below holds_digit (λ d. true) 62 ≡ true
digits_hold = refl

worths_hold : agree_below holds_worth (λ c. true) 256 ≡ true
worths_hold = refl

pub digit_at : (d : ℕ) → d < 62 → get_or DIGITS d 0 ≡ digit d
digit_at d h = eqb-true (get_or DIGITS d 0) (digit d) (agree_below_at holds_digit (λ d. true) 62 d digits_hold h)

pub worth_at : (c : ℕ) → c < 256 → get_or WORTHS c 0 ≡ worth c
worth_at c h = eqb-true (get_or WORTHS c 0) (worth c) (agree_below_at holds_worth (λ c. true) 256 c worths_hold h)

-- What a single word of a script says, or that it says nothing that is understood. Assumes nothing.
use Rattle.std.specs.Prelude.{◌≡◌, ◌≢◌, ℕ, ◌^◌, ◌<◌, ◌⊎◌, List, Ok, Err, IsOk, codes, Result}
use Rattle.std.specs.Str.Parse.{IsNumeral, without_leading_plus, digits_value}
use Rattle.codes.specs.declared.order.OrderType.{OrderType}
use Rattle.codes.specs.declared.order.OrderType.TheVariants.{Market, Limit}
use Rattle.codes.specs.declared.order.Side.{Side}
use Rattle.codes.specs.declared.order.Side.TheVariants.{Buy, Sell}
use Rattle.terms.specs.declared.lifetime.Lifetime.{Lifetime}
use Rattle.terms.specs.declared.lifetime.Lifetime.TheVariants.{Day, ImmediateOrCancel}
use Rattle.texts.specs.declared.values.Price.{Price}
use Rattle.bench_words.specs.Words.{price_of}
use Rattle.auction_script.specs.declared.command.Misread.{Misread}
use Rattle.auction_script.specs.declared.command.Misread.TheVariants as misread

-- a word that is one of two
abbrev pub OneOf : List ℕ → List ℕ → List ℕ → Type 0
OneOf one other w = (w ≡ one) ⊎ (w ≡ other)

abbrev pub Neither : List ℕ → List ℕ → List ℕ → Type 0
Neither one other w = (w ≢ one) × (w ≢ other)

abbrev pub SideRead : List ℕ → Result Side Misread → Type 0
SideRead w (Ok Buy) = w ≡ codes "buy"
SideRead w (Ok Sell) = w ≡ codes "sell"
SideRead w (Err e) = (e ≡ misread.Side) × Neither (codes "buy") (codes "sell") w

abbrev pub KindRead : List ℕ → Result OrderType Misread → Type 0
KindRead w (Ok Market) = w ≡ codes "market"
KindRead w (Ok Limit) = w ≡ codes "limit"
KindRead w (Err e) = (e ≡ misread.OrderType) × Neither (codes "market") (codes "limit") w

abbrev pub ForceRead : List ℕ → Result Lifetime Misread → Type 0
ForceRead w (Ok Day) = w ≡ codes "day"
ForceRead w (Ok ImmediateOrCancel) = w ≡ codes "ioc"
ForceRead w (Err e) = (e ≡ misread.TimeInForce) × Neither (codes "day") (codes "ioc") w

-- a number of k bits in decimal digits
abbrev pub IsNumber : ℕ → List ℕ → Type 0
IsNumber k w = IsNumeral 10 (without_leading_plus w) × (digits_value 10 (without_leading_plus w) < 2 ^ k)

abbrev pub NumberRead : ℕ → Misread → List ℕ → Result ℕ Misread → Type 0
NumberRead k wrong w (Ok n) = IsNumber k w × (n ≡ digits_value 10 (without_leading_plus w))
NumberRead k wrong w (Err e) = (e ≡ wrong) × (IsNumber k w → ⊥)

-- a price, as every script says it
abbrev pub IsPrice : List ℕ → Type 0
IsPrice w = IsOk (price_of w)

abbrev pub PriceRead : List ℕ → Result Price Misread → Type 0
PriceRead w (Ok p) = price_of w ≡ Ok p
PriceRead w (Err e) = (e ≡ misread.Price) × (IsPrice w → ⊥)

-- What a single word of a script says. Assumes nothing.
use Rattle.std.specs.Prelude.{ℕ, ◌^◌, Bool, true, false, ◌&&◌, if◌then◌else◌, List, drop, ℤ, pos, neg_ℤ, Some, None, Ok, Err, Option, Result, codes, nat_le, nat_lt, ◌==◌}
use Rattle.std.specs.List.{after_first, before_first, list_any}
use Rattle.std.specs.Str.{bytes_eq}
use Rattle.std.specs.Str.Parse.{digits_value, starts_with_minus, without_leading_plus}
use Rattle.std.specs.Option.{ok_or}
use Rattle.codes.specs.declared.order.Side.{Side}
use Rattle.codes.specs.declared.order.Side.TheVariants.{Buy, Sell}
use Rattle.matching.specs.declared.tape.Line.{Line}
use Rattle.terms.specs.declared.pricing.Pricing.{Pricing}
use Rattle.terms.specs.declared.pricing.Pricing.TheVariants.{Market, Limit}
use Rattle.texts.specs.declared.values.Price.{Price}
use Rattle.texts.specs.declared.values.Time.{Time}
use Rattle.bench_words.specs.Prices.{is_numeral, is_point, raw_of}
use Rattle.bench_words.specs.declared.misread.Misread.{Misread}
use Rattle.bench_words.specs.declared.misread.Misread.TheVariants as why

-- a value, or why there is none

-- ---- numbers

-- a whole number of k bits in decimal digits, perhaps behind a plus
abbrev pub whole_of : ℕ → List ℕ → Option ℕ
whole_of k w =
    let ds = without_leading_plus w in
    if is_numeral ds && nat_lt (digits_value 10 ds) (2 ^ k) then Some (digits_value 10 ds) else None

abbrev pub negative_of : ℕ → List ℕ → Option ℤ
negative_of k ds =
    if is_numeral ds && nat_le (digits_value 10 ds) (2 ^ k) then Some (neg_ℤ (pos (digits_value 10 ds))) else None

abbrev pub positive_of : ℕ → List ℕ → Option ℤ
positive_of k ds =
    if is_numeral ds && nat_lt (digits_value 10 ds) (2 ^ k) then Some (pos (digits_value 10 ds)) else None

-- a whole number of k bits and a sign
abbrev pub signed_of : ℕ → List ℕ → Option ℤ
signed_of k w = if starts_with_minus w then negative_of k (drop 1 w) else positive_of k (without_leading_plus w)

abbrev pub line_of : List ℕ → Result ℕ Misread
line_of w = ok_or (whole_of 64 w) why.Line

abbrev pub number_of : List ℕ → Result ℕ Misread
number_of w = ok_or (whole_of 64 w) why.Number

abbrev pub small_of : List ℕ → Result ℕ Misread
small_of w = ok_or (whole_of 32 w) why.Number

abbrev pub part_of : List ℕ → Result ℕ Misread
part_of w = ok_or (whole_of 8 w) why.Number

abbrev pub app_of : List ℕ → Result ℤ Misread
app_of w = ok_or (signed_of 7 w) why.Number

abbrev pub shares_of : List ℕ → Result ℤ Misread
shares_of w = ok_or (signed_of 31 w) why.Quantity

-- ---- prices, sides, times

-- a price in hundred-millionths, read as a decimal number
abbrev pub priced : Option ℤ → Result Price Misread
priced None = Err why.Price
priced (Some z) = Ok (record { raw = z })

abbrev pub price_of : List ℕ → Result Price Misread
price_of w = priced (raw_of w)

abbrev pub limited : Result Price Misread → Result Pricing Misread
limited (Err e) = Err e
limited (Ok p) = Ok (Limit p)

abbrev pub pricing_of : List ℕ → Result Pricing Misread
pricing_of w = if bytes_eq w (codes "market") then Ok Market else limited (price_of w)

abbrev pub yes_of : List ℕ → Result Bool Misread
yes_of w = if bytes_eq w (codes "yes") then Ok true else if bytes_eq w (codes "no") then Ok false else Err why.YesOrNo

abbrev pub side_of : List ℕ → Result Side Misread
side_of w = if bytes_eq w (codes "buy") then Ok Buy else if bytes_eq w (codes "sell") then Ok Sell else Err why.Side

abbrev pub is_comma : ℕ → Bool
is_comma b = b == 44

abbrev pub clock : Option ℕ → Option ℕ → Option Time
clock None u = None
clock (Some s) None = None
clock (Some s) (Some u) = Some (record { seconds = s; microseconds = u })

-- two whole numbers round a point
abbrev pub time_said : List ℕ → Option Time
time_said w =
    if list_any is_point w then clock (whole_of 32 (before_first is_point w)) (whole_of 32 (after_first is_point w))
    else None

abbrev pub time_of : List ℕ → Result Time Misread
time_of w = ok_or (time_said w) why.Time

abbrev pub pair_of : Option ℕ → Result Price Misread → Option (ℕ × Price)
pair_of None p = None
pair_of (Some q) (Err e) = None
pair_of (Some q) (Ok p) = Some (q, p)

-- a quantity and a price, with a comma between
abbrev pub shares_at : List ℕ → Option (ℕ × Price)
shares_at w =
    if list_any is_comma w then pair_of (whole_of 32 (before_first is_comma w)) (price_of (after_first is_comma w))
    else None

abbrev pub trade_of : Option ℕ → Option (ℕ × Price) → Option Line
trade_of None t = None
trade_of (Some n) None = None
trade_of (Some n) (Some t) = Some (record { number = n; quantity = t.0; price = t.1 })

-- an order's number, and behind a comma a quantity and a price
abbrev pub tape_line_of : List ℕ → Option Line
tape_line_of w =
    if list_any is_comma w then trade_of (whole_of 64 (before_first is_comma w)) (shares_at (after_first is_comma w))
    else None

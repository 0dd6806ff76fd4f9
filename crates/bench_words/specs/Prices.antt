-- A price as a person writes it: a decimal number with up to eight places. Assumes nothing.
use Rattle.std.specs.Prelude.{ℕ, ◌+◌, ◌-◌, ◌*◌, ◌^◌, Bool, ◌&&◌, if◌then◌else◌, List, length, drop, ℤ, pos, neg_ℤ, Some, None, Option, nat_le, nat_lt, ◌==◌}
use Rattle.std.specs.List.{after_first, before_first, list_any}
use Rattle.std.specs.Str.{all_ascii_digits}
use Rattle.std.specs.Str.Parse.{digits_value, starts_with_minus}

-- one decimal digit or more, and nothing else
abbrev pub is_numeral : List ℕ → Bool
is_numeral ds = nat_lt 0 (length ds) && all_ascii_digits ds

-- what 64 bits hold
abbrev pub within_64 : ℕ → Option ℕ
within_64 n = if nat_lt n (2 ^ 64) then Some n else None

-- digits alone
unfoldable pub digits_of : List ℕ → Option ℕ
digits_of w = if is_numeral w then within_64 (digits_value 10 w) else None

abbrev pub times : Option ℕ → ℕ → Option ℕ
times None k = None
times (Some n) k = within_64 (n * k)

-- one to eight digits behind a point, in hundred-millionths: the first counts ten millions
unfoldable pub places_of : List ℕ → Option ℕ
places_of w = if nat_le (length w) 8 then times (digits_of w) (10 ^ (8 - length w)) else None

-- whole ones and hundred-millionths, in hundred-millionths
abbrev pub sum_of : Option ℕ → Option ℕ → Option ℕ
sum_of None k = None
sum_of (Some n) None = None
sum_of (Some n) (Some k) = within_64 (n * 100000000 + k)

abbrev pub is_point : ℕ → Bool
is_point b = b == 46

-- digits, or digits, a point and one to eight digits
unfoldable pub amount_of : List ℕ → Option ℕ
amount_of w =
    if list_any is_point w then sum_of (digits_of (before_first is_point w)) (places_of (after_first is_point w))
    else sum_of (digits_of w) (Some 0)

abbrev pub above : Option ℕ → Option ℤ
above None = None
above (Some n) = if nat_lt n (2 ^ 63) then Some (pos n) else None

abbrev pub below : Option ℕ → Option ℤ
below None = None
below (Some n) = if nat_le n (2 ^ 63) then Some (neg_ℤ (pos n)) else None

-- perhaps behind a minus, in hundred-millionths, where a signed number of 64 bits holds them
unfoldable pub raw_of : List ℕ → Option ℤ
raw_of w = if starts_with_minus w then below (amount_of (drop 1 w)) else above (amount_of w)

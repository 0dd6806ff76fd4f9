-- How a price is printed: as a decimal number with eight places. Assumes nothing.
use Rattle.std.specs.Prelude.{ℕ, suc, ◌/◌, ◌%◌, List, ◌∷◌, ◌++◌, ℤ, pos, negsuc, decimal}

-- the last four decimal digits of a number
abbrev pub four : ℕ → List ℕ
four n = decimal (n / 1000 % 10) ++ (decimal (n / 100 % 10) ++ (decimal (n / 10 % 10) ++ decimal (n % 10)))

-- a number of hundred-millionths: the whole part, a point, and eight decimals
abbrev pub amount : ℕ → List ℕ
amount n = decimal (n / 100000000) ++ (46 ∷ (four (n % 100000000 / 10000) ++ four (n % 10000)))

-- behind a minus where it is below 0
abbrev pub price_text : ℤ → List ℕ
price_text (pos n) = amount n
price_text (negsuc n) = 45 ∷ amount (suc n)

-- Identifiers: a letter, and a number in eleven digits of base 62. Assumes nothing.
use Rattle.std.specs.Prelude.{◌≡◌, ℕ, zero, suc, ◌+◌, ◌-◌, ◌*◌, ◌/◌, ◌%◌, ◌^◌, ◌<◌, if◌then◌else◌, ◌&&◌, List, [], ◌∷◌, ◌++◌, length, drop, Some, None, Option, ◌==◌, nat_le, nat_lt, slice_index}
use Rattle.texts.specs.declared.identifiers.ExecutionId.{ExecutionId}
use Rattle.texts.specs.declared.identifiers.TheConstants.{SEQUENCES}

-- the digit that stands for a number below 62: 0 to 9, A to Z, a to z
abbrev pub digit : ℕ → ℕ
digit d = if nat_lt d 10 then 48 + d else if nat_lt d 36 then 55 + d else 61 + d

-- what a byte is worth as a digit; 62 where it is none
abbrev pub worth : ℕ → ℕ
worth c =
    if nat_le 48 c && nat_le c 57 then c - 48
    else if nat_le 65 c && nat_le c 90 then c - 55
    else if nat_le 97 c && nat_le c 122 then c - 61
    else 62

-- a number in a count of digits
unfoldable pub base62 : ℕ → ℕ → List ℕ
base62 zero n = []
base62 (suc k) n = base62 k (n / 62) ++ (digit (n % 62) ∷ [])

-- the identifier of a number under a letter
abbrev pub id_of : ℕ → ℕ → List ℕ
id_of letter n = letter ∷ base62 11 n

-- the number that digits write behind one that was read, below 2 ^ 64
abbrev pub after : ℕ → List ℕ → Option ℕ
after n [] = Some n
after n (c ∷ cs) =
    if nat_lt (worth c) 62 && nat_lt (n * 62 + worth c) (2 ^ 64) then after (n * 62 + worth c) cs else None

-- the number of an identifier under a letter
abbrev pub number_of : ℕ → List ℕ → Option ℕ
number_of letter bs = if length bs == 12 && slice_index bs 0 == letter then after 0 (drop 1 bs) else None

-- O and the order's number
abbrev pub order_id_text : ℕ → List ℕ
order_id_text n = id_of 79 n

-- E and a number of the partition and the sequence number
abbrev pub execution_number : ℕ → ℕ → ℕ
execution_number partition sequence = partition * SEQUENCES + sequence

abbrev pub execution_id_text : ℕ → ℕ → List ℕ
execution_id_text partition sequence = id_of 69 (execution_number partition sequence)

-- the report of such a number, where its partition is one byte
abbrev pub execution_of : Option ℕ → Option ExecutionId
execution_of None = None
execution_of (Some n) =
    if nat_lt (n / SEQUENCES) 256 then Some (record { partition = n / SEQUENCES; sequence = n % SEQUENCES }) else None

-- an identifier gives its number back, and no other number has the same one
abbrev pub Returns : ℕ → ℕ → Type 0
Returns letter n =
    (number_of letter (id_of letter n) ≡ Some n)
    × ((m : ℕ) → m < 2 ^ 64 → id_of letter m ≡ id_of letter n → m ≡ n)

-- What a call adds to an account; a count stays at the largest number of 64 bits. Assumes nothing.
use Rattle.std.specs.Prelude.{ℕ, ◌+◌, ◌-◌, ◌^◌, List, ◌++◌, codes, decimal, min, replicate, slice_index, slice_set}
use Rattle.bench_account.specs.declared.account.Account.{Account}
use Rattle.bench_account.specs.declared.answer.Answer.{Answer}
use Rattle.bench_account.specs.declared.answer.Answer.TheVariants as answer

abbrev pub more : ℕ → ℕ
more n = min (n + 1) (2 ^ 64 - 1)

abbrev pub no_calls : Account
no_calls = record { calls = 0; answered = 0; sent = 0; refused = 0; by_number = replicate 256 0 }

-- one refusal more, and one of its number
abbrev pub with_refusal : Account → ℕ → Account
with_refusal a n =
    record a { refused = more a.refused; by_number = slice_set a.by_number n (more (slice_index a.by_number n)) }

abbrev pub with_answer : Account → Answer → Account
with_answer a (answer.Message p) = record a { answered = more a.answered }
with_answer a (answer.Sent p) = record a { sent = more a.sent }
with_answer a (answer.Refused n) = with_refusal a n
with_answer a (answer.RefusedAt n at) = with_refusal a n
with_answer a (answer.Rejected n at p) = with_refusal (record a { answered = more a.answered }) n
with_answer a x = a

-- one call more, and what it was answered
abbrev pub counted : Account → Answer → Account
counted a x = with_answer (record a { calls = more a.calls }) x

abbrev pub account_text : Account → List ℕ
account_text a =
    (codes "calls " ++ (decimal a.calls ++ (codes " answered " ++ (decimal a.answered ++ codes " "))))
    ++ (codes "messages " ++ (decimal a.sent ++ (codes " refused " ++ decimal a.refused)))

-- How long a request is. Assumes nothing.
use Rattle.std.proofs.Common.{◌≡◌, ℕ, List, [], ◌∷◌, ◌++◌, None, Ok, Err, Result, length, pos, refl, ap, ◌∙◌, arith}
use Rattle.codes.specs.Session.{partition_code}
use Rattle.codes.specs.declared.session.Partition.{Partition}
use Rattle.follower.specs.Asking.{request, ReadBack}
use Rattle.layout.specs.Layout.Content.{figure, int8}
use Rattle.layout.specs.Writing.{header, encode}
use Rattle.layout.specs.declared.fault.Fault.{Fault}
use Rattle.texts.specs.Bytes.{le, part}
use Rattle.wire.proofs.Headers.{opened_by}
use Rattle.wire.proofs.Sound.{kinds_same}
use Rattle.wire.specs.Kinds.{letter_of, total_of, table_of}
use Rattle.wire.specs.Messages.{after_opening, opening}
use Rattle.wire.specs.declared.kinds.Channel.TheVariants.{Recovery}
use Rattle.wire.specs.declared.kinds.Kind.{Kind}
use Rattle.wire.specs.declared.kinds.Kind.TheVariants.{MissedMessageRequest as Request}

opens : (bs : List ℕ) (r : Result Kind Fault) → after_opening bs r ≡ None → (k : Kind) × (r ≡ Ok k)
opens bs (Ok k) e = (k, refl)
opens bs (Err x) e = absurd cc

-- whatever stands behind a header, bytes that open as a message are as long as the header's kind says
long_as : (k j : Kind) (xs : List ℕ) → opening Recovery (header (letter_of k) (total_of k) ++ xs) ≡ Ok j
    → length (header (letter_of k) (total_of k) ++ xs) ≡ total_of k
long_as k j xs e =
    let bs = header (letter_of k) (total_of k) ++ xs in
    let o = opened_by Recovery j bs e in
    let same : letter_of j ≡ le (part 3 1 bs) = o.3 in
    let l : j ≡ k = kinds_same j k (omega (arith, same)) in
    o.2 ∙ ap total_of l

pub request_long : (p : Partition) (n : ℕ) → ReadBack p n → length (request p n) ≡ total_of Request
unfolding request
request_long p n back =
    let (k, e) = opens (request p n) (opening Recovery (request p n)) back.taken in
    long_as Request k (encode (table_of Request) (int8 (pos (partition_code p)) ∷ figure n ∷ [])) e

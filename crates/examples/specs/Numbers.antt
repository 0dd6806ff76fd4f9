-- The numbers of a day, of a message and of the wire, in literals: those that the code has. Assumes nothing.
use Rattle.std.specs.Prelude.{◌≡◌, ◌^◌, [], ◌∷◌}
use Rattle.codes.specs.Lists.{listed}
use Rattle.codes.specs.declared.lists.Codes.TheVariants.{Partitions}
use Rattle.follower.specs.declared.hold.TheConstants.{HOLD}
use Rattle.layout.specs.declared.put.TheConstants.{START}
use Rattle.layout.specs.declared.sequence.TheConstants.{SEQUENCE_LIMIT}
use Rattle.limits.specs.declared.TheConstants.{ORDERS, TRADES, REPORTS, SHARES, REQUESTS, DOWNLOADED, COMP_IDS, INSTRUMENTS, MESSAGE_BYTES}
use Rattle.dark_book.specs.Books.{darkened}
use Rattle.lit_book.specs.Books.{lit_up}
use Rattle.matching.specs.Meaning.{Orders}
use Rattle.matching.specs.Tapes.{taped}
use Rattle.wire.specs.declared.message.TheConstants.{BUFFER}
use Rattle.wire.specs.Published.{AsPublished}

pub record Numbers : Type 0 where
  -- of a day
  pub orders : ORDERS ≡ 256
  pub trades : TRADES ≡ 512
  pub reports : REPORTS ≡ 16384
  pub shares : SHARES ≡ 1000000000
  pub comp_ids : COMP_IDS ≡ 8
  pub instruments : INSTRUMENTS ≡ 32
  pub partitions : listed Partitions ≡ 1 ∷ 2 ∷ 3 ∷ []
  -- of a download, and of what a partition that is behind holds
  pub requests : REQUESTS ≡ 48
  pub downloaded : DOWNLOADED ≡ 64
  pub held : HOLD ≡ 32
  -- how many orders each engine takes
  pub lit_book : (os : Orders) → (lit_up os).capacity ≡ 256
  pub dark_book : (os : Orders) → (darkened os).capacity ≡ 256
  pub tape : (os : Orders) → (taped os).capacity ≡ 64
  -- of a message, and of a buffer that takes any answer
  pub start : START ≡ 2
  pub sequence_limit : SEQUENCE_LIMIT ≡ 2 ^ 31
  pub message_bytes : MESSAGE_BYTES ≡ 145
  pub buffer : BUFFER ≡ 512
  -- each message's layout, and what each reader takes
  pub wire : AsPublished

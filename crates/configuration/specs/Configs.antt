-- What a gateway can be started with. Assumes nothing.
use Rattle.std.specs.Prelude.{◌≡◌, ℕ, Bool, true, false, ◌&&◌, List, length, Some, None, Ok, Err, Option, Result, nat_le}
use Rattle.codes.specs.Member.{member}
use Rattle.codes.specs.Lists.{listed as bytes_listed}
use Rattle.codes.specs.Session.{partition_code}
use Rattle.codes.specs.declared.lists.Codes.TheVariants.{Partitions}
use Rattle.limits.specs.declared.TheConstants.{COMP_IDS, INSTRUMENTS}
use Rattle.configuration.specs.declared.config.Config.{Config}
use Rattle.configuration.specs.declared.instrument.Instrument.{Instrument}
use Rattle.configuration.specs.declared.participant.Participant.{Participant}
use Rattle.configuration.specs.declared.config.StartRefusal.{StartRefusal}
use Rattle.configuration.specs.declared.config.StartRefusal.TheVariants.{BadConfiguration, NotEmpty, NoMemory}
use Rattle.configuration.specs.Names.{all_differ}
use Rattle.texts.specs.Bytes.{said}
use Rattle.texts.specs.Texts.{fitting, fitting_name}

-- the number of each refusal; want of memory has none
abbrev pub start_number : StartRefusal → Option ℕ
start_number BadConfiguration = Some 60
start_number NotEmpty = Some 61
start_number NoMemory = None

-- a CompID's name says something, and both texts fit their fields
abbrev pub admitted : List ℕ → List ℕ → Bool
admitted name password = fitting_name 25 name && fitting 25 password

abbrev pub Admits : List ℕ → List ℕ → ℕ → Bool → Result Participant StartRefusal → Type 0
Admits name password firm ends (Ok p) =
    (admitted name password ≡ true) × (said p.name.bytes ≡ name) × (said p.password.bytes ≡ password)
    × (p.firm ≡ firm) × (p.ends_orders ≡ ends)
Admits name password firm ends (Err e) = (admitted name password ≡ false) × (e ≡ BadConfiguration)

-- a symbol says something, both texts fit their fields, and the partition is 1 to 3
abbrev pub listed : List ℕ → List ℕ → ℕ → Bool
listed symbol segment partition =
    fitting_name 6 symbol && fitting 4 segment && member partition (bytes_listed Partitions)

abbrev pub Lists : List ℕ → List ℕ → ℕ → Result Instrument StartRefusal → Type 0
Lists symbol segment partition (Ok i) =
    (listed symbol segment partition ≡ true) × (said i.symbol.bytes ≡ symbol) × (said i.segment.bytes ≡ segment)
    × (partition_code i.partition ≡ partition)
Lists symbol segment partition (Err e) = (listed symbol segment partition ≡ false) × (e ≡ BadConfiguration)

-- at most 8 CompIDs and 32 instruments, and no name twice
abbrev pub can_start : List Participant → List Instrument → Bool
can_start ps is =
    nat_le (length ps) COMP_IDS && nat_le (length is) INSTRUMENTS
    && all_differ (λ p. said p.name.bytes) ps && all_differ (λ i. said i.symbol.bytes) is

abbrev pub Configures : List Participant → List Instrument → Result Config StartRefusal → Type 0
Configures ps is (Ok c) = (can_start ps is ≡ true) × (c.participants.items ≡ ps) × (c.instruments.items ≡ is)
Configures ps is (Err BadConfiguration) = can_start ps is ≡ false
Configures ps is (Err NotEmpty) = ⊥
Configures ps is (Err NoMemory) = Unit {0}

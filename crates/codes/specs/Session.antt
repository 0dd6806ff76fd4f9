-- The codes of sessions and of downloads: each enum's values and their bytes. Assumes nothing.
use Rattle.std.specs.Prelude.{ℕ, Bool, List, [], ◌∷◌, ◌==◌}
use Rattle.codes.specs.declared.session as declared
use Rattle.codes.specs.declared.session.Version.TheVariants as version
use Rattle.codes.specs.declared.session.Partition.TheVariants as partition
use Rattle.codes.specs.declared.session.AckResponse.TheVariants as ack_response
use Rattle.codes.specs.declared.session.ReportResponse.TheVariants as report_response

-- the one version of the messages
abbrev pub versions : List declared.Version.Version
versions = version.One ∷ []

abbrev pub version_code : declared.Version.Version → ℕ
version_code version.One = 1

-- a part of the matching system, with sequence numbers of its own
abbrev pub partitions : List declared.Partition.Partition
partitions = partition.One ∷ partition.Two ∷ partition.Three ∷ []

abbrev pub partition_code : declared.Partition.Partition → ℕ
partition_code partition.One = 1
partition_code partition.Two = 2
partition_code partition.Three = 3

abbrev pub same_partition : declared.Partition.Partition → declared.Partition.Partition → Bool
same_partition p q = partition_code p == partition_code q

-- the answer to a Missed Message Request
abbrev pub ack_responses : List declared.AckResponse.AckResponse
ack_responses =
    ack_response.Successful ∷ ack_response.LimitReached ∷ ack_response.InvalidAppId
    ∷ ack_response.ServiceUnavailable ∷ []

abbrev pub ack_response_code : declared.AckResponse.AckResponse → ℕ
ack_response_code ack_response.Successful = 0
ack_response_code ack_response.LimitReached = 1
ack_response_code ack_response.InvalidAppId = 2
ack_response_code ack_response.ServiceUnavailable = 3

-- how a download ended
abbrev pub report_responses : List declared.ReportResponse.ReportResponse
report_responses = report_response.Complete ∷ report_response.MessageLimit ∷ report_response.ServiceUnavailable ∷ []

abbrev pub report_response_code : declared.ReportResponse.ReportResponse → ℕ
report_response_code report_response.Complete = 0
report_response_code report_response.MessageLimit = 1
report_response_code report_response.ServiceUnavailable = 3

-- The octets of a body, and how many of them a frame may hold.
use Rattle.std.specs.Prelude.{ℕ, List, take, length, nat_lt, if◌then◌else◌}
use Rattle.http_content.specs.declared.portions.Source.{Source}
use Rattle.http_content.specs.declared.portions.Source.TheVariants.{Object, Front, Text}

abbrev pub source_octets : Source → List ℕ
source_octets (Object object) = object.body
source_octets (Front object end) = take end object.body
source_octets (Text text) = text.items

-- the most octets of a frame of an object whose body has so many, whether the frame shares them or copies them
abbrev pub limit_of : ℕ → ℕ
limit_of count = if nat_lt count 131072 then 65536 else 131072

abbrev pub frame_limit : Source → ℕ
frame_limit (Object object) = limit_of (length object.body)
frame_limit (Front object end) = limit_of (length object.body)
frame_limit (Text text) = 65536

-- The classes of HTTP statuses (RFC 9110, section 15). A status that is none of 100 to 599 is invalid, and is treated as
-- one of the class 5xx, as RFC 9110 advises clients. Status 0 stands for no answer.
use Rattle.std.specs.Prelude.{◌≡◌, ◌⊎◌, ℕ, ◌<◌, ◌≤◌}
use Rattle.traffic_figures.specs.declared.kinds.StatusClass.{StatusClass}
use Rattle.traffic_figures.specs.declared.kinds.StatusClass.TheVariants.{Informational, Successful, Redirection, ClientError, ServerError, NoAnswer}

abbrev pub IsOfClass : ℕ → StatusClass → Type 0
IsOfClass status Informational = (100 ≤ status) × (status < 200)
IsOfClass status Successful = (200 ≤ status) × (status < 300)
IsOfClass status Redirection = (300 ≤ status) × (status < 400)
IsOfClass status ClientError = (400 ≤ status) × (status < 500)
IsOfClass status ServerError = ((0 < status) × (status < 100)) ⊎ (500 ≤ status)
IsOfClass status NoAnswer = status ≡ 0

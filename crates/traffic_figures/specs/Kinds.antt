-- The places of the counters of each kind, from 0, and the names of kinds in both texts.
use Rattle.std.specs.Prelude.{ℕ, List, codes}
use Rattle.traffic_figures.specs.declared.kinds.Course.{Course}
use Rattle.traffic_figures.specs.declared.kinds.Course.TheVariants.{Hit, Miss, Collapsed, Bypass, Own}
use Rattle.traffic_figures.specs.declared.kinds.FetchOutcome.{FetchOutcome}
use Rattle.traffic_figures.specs.declared.kinds.FetchOutcome.TheVariants.{Whole, Refused, Failed}
use Rattle.traffic_figures.specs.declared.kinds.FetchedFrom.{FetchedFrom}
use Rattle.traffic_figures.specs.declared.kinds.FetchedFrom.TheVariants.{Origin, Neighbour}
use Rattle.traffic_figures.specs.declared.kinds.StatusClass.{StatusClass}
use Rattle.traffic_figures.specs.declared.kinds.StatusClass.TheVariants.{Informational, Successful, Redirection, ClientError, ServerError, NoAnswer}

abbrev pub course_place : Course → ℕ
course_place Hit = 0
course_place Miss = 1
course_place Collapsed = 2
course_place Bypass = 3
course_place Own = 4

abbrev pub course_name : Course → List ℕ
course_name Hit = codes "hit"
course_name Miss = codes "miss"
course_name Collapsed = codes "collapsed"
course_name Bypass = codes "bypass"
course_name Own = codes "refused"

abbrev pub class_place : StatusClass → ℕ
class_place Informational = 0
class_place Successful = 1
class_place Redirection = 2
class_place ClientError = 3
class_place ServerError = 4
class_place NoAnswer = 5

abbrev pub class_name : StatusClass → List ℕ
class_name Informational = codes "1xx"
class_name Successful = codes "2xx"
class_name Redirection = codes "3xx"
class_name ClientError = codes "4xx"
class_name ServerError = codes "5xx"
class_name NoAnswer = codes "none"

-- of a source of fetches; all neighbours have one place
abbrev pub source_place : FetchedFrom → ℕ
source_place Origin = 0
source_place (Neighbour n) = 1

abbrev pub outcome_place : FetchOutcome → ℕ
outcome_place Whole = 0
outcome_place Refused = 1
outcome_place Failed = 2

abbrev pub outcome_name : FetchOutcome → List ℕ
outcome_name Whole = codes "whole"
outcome_name Refused = codes "refused"
outcome_name Failed = codes "failed"

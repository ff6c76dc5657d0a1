-- The methods beside GET whose requests are passed on.
use Rattle.std.specs.Prelude.{ℕ, List, codes}
use Rattle.http_traffic.specs.declared.passed_method.PassedMethod.{PassedMethod}
use Rattle.http_traffic.specs.declared.passed_method.PassedMethod.TheVariants.{Head, Post, Put, Delete, Options, Patch}

-- a method as it stands in a request
abbrev pub method_name : PassedMethod → List ℕ
method_name Head = codes "HEAD"
method_name Post = codes "POST"
method_name Put = codes "PUT"
method_name Delete = codes "DELETE"
method_name Options = codes "OPTIONS"
method_name Patch = codes "PATCH"

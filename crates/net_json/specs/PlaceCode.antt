-- Places in code, and the paths that they stand for.
use Rattle.std.specs.Prelude.{ℕ, List, []}
use Rattle.net_json.specs.declared.places.Place.{Place}
use Rattle.net_json.specs.declared.places.Place.TheVariants as place
use Rattle.net_json.specs.Judging.{at_member, at_index}

abbrev pub path_of : Place → List ℕ
path_of place.Scene = []
path_of (place.Member' p outer name) = at_member (path_of outer) name.now
path_of (place.Item' p outer index) = at_index (path_of outer) index

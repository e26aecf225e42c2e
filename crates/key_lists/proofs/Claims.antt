-- A term of each type of specs/Claims.antt.
use Rattle.block_bytes.proofs.RoundTrip.{list_bytes_lem}
use Rattle.key_lists.specs.declared.Direction.TheVariants.{Enciphering, Deciphering}
use Rattle.key_lists.specs.KeyLists.{list_for, prepared}
use Rattle.key_lists.specs.Claims.{PreparedIsList}
use Rattle.key_lists.proofs.Lists.{states_for}

pub prepared_is_list : PreparedIsList
unfolding PreparedIsList prepared list_for
prepared_is_list key rounds s = (
  list_bytes_lem (list_for Enciphering key rounds) (states_for key s.length_allowed s.bytes Enciphering rounds),
  list_bytes_lem (list_for Deciphering key rounds) (states_for key s.length_allowed s.bytes Deciphering rounds),
)

-- The code's limits are the numerals, those too that only the crates above this one use.
use Rattle.std.proofs.Common.{◌≡◌, refl}
use Rattle.xid.specs.Limits as limit
use Rattle.xid.specs.declared.limits.TheConstants as code

pub record AreCodeLimits : Type 0 where
  pub acceptors : code.MAX_ACCEPTORS ≡ limit.most_acceptors
  pub leaders : code.MAX_LEADERS ≡ limit.most_leaders
  pub managers : code.MAX_MANAGERS ≡ limit.most_managers
  pub branches : code.MAX_BRANCHES ≡ limit.most_branches
  pub component : code.MAX_COMPONENT ≡ limit.most_component
  pub formats : code.FORMATS ≡ limit.formats
  pub key : code.MAX_KEY ≡ limit.most_key
  pub value : code.MAX_VALUE ≡ limit.most_value
  pub touched : code.MAX_TOUCHED ≡ limit.most_touched

pub code_limits : AreCodeLimits
code_limits = record {
  acceptors = refl;
  leaders = refl;
  managers = refl;
  branches = refl;
  component = refl;
  formats = refl;
  key = refl;
  value = refl;
  touched = refl;
}

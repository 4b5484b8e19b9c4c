use Rattle.std.proofs.Common.{◌≡◌, take, false}
use Rattle.access_profile.proofs.MissingKeys.{may_have_access_key}
use Rattle.access_profile.proofs.deciding_key.lacks_access_keys.Given as goal

-- no key so far begins so
abbrev pub invariant-loop-tag : goal.invariant-loop-tag
invariant-loop-tag l = may_have_access_key (take l.tag-index l.tags) ≡ false

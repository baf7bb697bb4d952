use Rattle.std.proofs.Common.{[]}
use Rattle.base_types.proofs.Hashes.{hash_on-pieces}
use Rattle.base_types.specs.Paths.{akey_bytes, cont_bytes, dkey_bytes, object_bytes}
use Rattle.base_types.proofs.slot.hash_at.Goals as goal

pub returns-in-Cont : goal.returns-in-Cont
returns-in-Cont c =
    let path = c.args.path.now in
    rw (c.in-Cont.is, c.hash_on-cont.ensures, c.bytes.ensures) (hash_on-pieces (cont_bytes path.cont) [] [] [])

pub returns-in-Obj : goal.returns-in-Obj
returns-in-Obj c =
    let path = c.args.path.now in
    rw (c.in-Obj.is, c.hash_object.ensures, c.hash_on-cont.ensures, c.bytes.ensures)
    (hash_on-pieces (cont_bytes path.cont) (object_bytes path.obj) [] [])

pub returns-in-Dkey : goal.returns-in-Dkey
returns-in-Dkey c =
    let path = c.args.path.now in
    rw (c.in-Dkey.is, c.hash_dkey.ensures, c.hash_object-object.ensures, c.hash_on-cont.ensures, c.bytes.ensures)
    (hash_on-pieces (cont_bytes path.cont) (object_bytes path.obj) (dkey_bytes path.dkey) [])

pub returns-in-Akey : goal.returns-in-Akey
returns-in-Akey c =
    let path = c.args.path.now in
    rw (c.in-Akey.is, c.hash_akey.ensures, c.hash_dkey-dkey.ensures, c.hash_object-object-in-Akey.ensures, c.hash_on-cont.ensures, c.bytes.ensures)
    (hash_on-pieces (cont_bytes path.cont) (object_bytes path.obj) (dkey_bytes path.dkey) (akey_bytes path.akey))

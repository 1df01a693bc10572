-- The regular objects of data elements have few bytes of fields.
use Rattle.std.proofs.Common.{arith}
use Rattle.wire_kinds.specs.Kind.{◌▹◌, exguid, serial, cell_id}
use Rattle.wire_kinds.specs.Short.{Short, short_pair, short_exguid, short_serial, short_cell_id}
use Rattle.doc_model.specs.wire.ElementRows.{manifest_mapping, cell_mapping, revision_mapping, schema_guid, manifest_root, current_revision, revision_manifest, revision_root, group_reference}

short_target : Short 46 (exguid ▹ serial)
short_target = short_pair 21 25 exguid serial short_exguid short_serial

short_ids : Short 42 (exguid ▹ exguid)
short_ids = short_pair 21 21 exguid exguid short_exguid short_exguid

short_place : Short 63 (exguid ▹ cell_id)
short_place = short_pair 21 42 exguid cell_id short_exguid short_cell_id

short_cell : Short 88 (cell_id ▹ exguid ▹ serial)
short_cell = short_pair 42 46 cell_id (exguid ▹ serial) short_cell_id short_target

short_revision : Short 67 (exguid ▹ exguid ▹ serial)
short_revision = short_pair 21 46 exguid (exguid ▹ serial) short_exguid short_target

pub short_manifest_mapping : Short 46 manifest_mapping.fields
short_manifest_mapping m = short_target (m.target, m.serial)

pub short_cell_mapping : Short 88 cell_mapping.fields
short_cell_mapping m = short_cell (m.cell, (m.target, m.serial))

pub short_revision_mapping : Short 67 revision_mapping.fields
short_revision_mapping m = short_revision (m.revision, (m.target, m.serial))

pub short_schema_guid : Short 16 schema_guid.fields
short_schema_guid g = omega arith

pub short_manifest_root : Short 63 manifest_root.fields
short_manifest_root r = short_place (r.root, r.cell)

pub short_current_revision : Short 21 current_revision.fields
short_current_revision id = short_exguid id

pub short_revision_manifest : Short 42 revision_manifest.fields
short_revision_manifest ids = short_ids ids

pub short_revision_root : Short 42 revision_root.fields
short_revision_root r = short_ids (r.root, r.object)

pub short_group_reference : Short 21 group_reference.fields
short_group_reference id = short_exguid id

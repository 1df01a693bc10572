-- How the fields of the regular objects are read: a line an object type whose fields are a struct.
use Rattle.std.specs.Prelude.{refl}
use Rattle.wire_kinds.specs.Code.{Code, ◌▸◌, exguid, serial, cell_id, made}
use Rattle.doc_model.specs.wire.ElementRows.{manifest_mapping, cell_mapping, revision_mapping, manifest_root, revision_root}

abbrev pub manifest_code : Code manifest_mapping.fields
manifest_code = made _ (λ m. (m.target, m.serial)) (λ f. record { target = f.0; serial = f.1 }) (λ f. refl) (λ m. refl) (exguid ▸ serial)

abbrev pub cell_code : Code cell_mapping.fields
cell_code = made _ (λ m. (m.cell, (m.target, m.serial))) (λ f. record { cell = f.0; target = f.1.0; serial = f.1.1 }) (λ f. refl) (λ m. refl) (cell_id ▸ exguid ▸ serial)

abbrev pub revision_code : Code revision_mapping.fields
revision_code = made _ (λ m. (m.revision, (m.target, m.serial))) (λ f. record { revision = f.0; target = f.1.0; serial = f.1.1 }) (λ f. refl) (λ m. refl) (exguid ▸ exguid ▸ serial)

abbrev pub root_code : Code manifest_root.fields
root_code = made _ (λ r. (r.root, r.cell)) (λ f. record { root = f.0; cell = f.1 }) (λ f. refl) (λ r. refl) (exguid ▸ cell_id)

abbrev pub revision_root_code : Code revision_root.fields
revision_root_code = made _ (λ r. (r.root, r.object)) (λ f. record { root = f.0; object = f.1 }) (λ f. refl) (λ r. refl) (exguid ▸ exguid)
